use Rattle.std.proofs.Common.{◌∙◌, sym, subst, rules, inl, inr, ap, refl}
use Rattle.std.proofs.lemmas.Bool.{false≢true}
use Rattle.slotted_operations.specs.Explaining.{Answers, RunsOutForTerms}
use Rattle.slotted_operations.specs.Good.{image_of}
use Rattle.slotted_operations.specs.Graph.{Graph}
use Rattle.slotted_graph.proofs.Analysed.{carries-data}
use Rattle.slotted_graph.proofs.Insides.{data-inside, inside-of, rebuilt-by}
use Rattle.slotted_graph.proofs.egraph.EGraph.explain_quietly.Goals as goal
use Rattle.slotted_graph.proofs.egraph.EGraph.explain_quietly.Goals.{in-Some, in-None}

pub explain-requires-clause-fresh_slots : goal.explain-requires-clause-fresh_slots
explain-requires-clause-fresh_slots g c = elim c.self.invariant [
  | inl h ↦ absurd (false≢true (sym c.if-self.false ∙ h))
  | inr h ↦ h.1
]

pub returns-in_err-answer-clause-full : goal.returns-in_err-answer-clause-full
returns-in_err-answer-clause-full g c e =
    subst (λ (x : Graph). RunsOutForTerms x.image c.args.left.now c.args.right.now x.table c.explain.new.table) c.self.view_is (c.in_err-answer.ensures.full (search rules))

-- `NotEqual` is answered where there is no entry alone
pub returns-clause-not_equal : goal.returns-clause-not_equal
returns-clause-not_equal g c e = elim c.match-answer.branch [
  | in-Some w ↦ absurd (search (rules, sym w.result-is ∙ e))
  | in-None w ↦ subst (Answers (image_of c.explain.new.store) c.args.left.now c.args.right.now) w.in-None.is c.in_ok-answer.ensures.ok.answers
]

pub explain-requires-clause-since : goal.explain-requires-clause-since
explain-requires-clause-since g c = data-inside g.N.Analysis.meaning c.self.inside.analysis c.if-self.false c.self.invariant

pub returns-clause-carries : goal.returns-clause-carries
returns-clause-carries g c =
    let k = c.self.inside.store in
    let r = c.self.inside.nodes in
    let t = c.self.inside.table in
    let inside = inside-of t k r c.self.view_is c.if-self.false c.self.invariant in
    let rested = data-inside g.N.Analysis.meaning c.self.inside.analysis c.if-self.false c.self.invariant in
    inr (carries-data g.N.Analysis.codes g.N.Analysis.meaning c.self.inside.analysis c.self.inside.rounds k r c.self.inside.data c.args.self.now inside.image (sym (ap (λ (x : Graph). x.part) c.self.view_is)) rested inside.filed c.explain.new.store c.explain.new.nodes c.explain.new.data _ refl refl c.in_ok-answer.ensures.ok.goes_on c.in_ok-answer.ensures.carried)

pub returns-clause-rests : goal.returns-clause-rests
returns-clause-rests g c =
    let ok = c.in_ok-answer.ensures.ok in
    inr (rebuilt-by c.explain.new.table c.explain.new.store c.explain.new.nodes _ ok.good ok.fresh_slots ok.rests)
