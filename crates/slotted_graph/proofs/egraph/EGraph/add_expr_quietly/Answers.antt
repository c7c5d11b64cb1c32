use Rattle.std.proofs.Common.{◌∙◌, ap, rules, sym, subst, inl, inr, refl}
use Rattle.std.proofs.lemmas.Bool.{false≢true}
use Rattle.slotted_slots.specs.Table.{Table}
use Rattle.slotted_model.specs.Growth.{Extends}
use Rattle.slotted_proofs.specs.Equations.{to_applied}
use Rattle.slotted_classes.specs.Kept.{nodes_of}
use Rattle.slotted_terms.specs.Valid.{IsValidTerm}
use Rattle.slotted_data.specs.Part.{part_by}
use Rattle.slotted_operations.specs.Good.{image_of}
use Rattle.slotted_operations.specs.Graph.{Graph}
use Rattle.slotted_operations.specs.Image.{AddsClasses}
use Rattle.slotted_operations.specs.Adding.{term_nodes}
use Rattle.slotted_operations.proofs.Additions.TermNodes.{reached}
use Rattle.slotted_operations.proofs.Additions.GraphsWithTerms.{term-answers, term-equal, term-filed, term-found, term-id, term-kept, term-lacks, term-nodes, term-reached, term-takes}
use Rattle.slotted_graph.proofs.Indexes.{no-index}
use Rattle.slotted_graph.proofs.Analysed.{carries-data, kept-part}
use Rattle.slotted_graph.proofs.Insides.{data-inside, inside-of, told-by, rebuilt-by}
use Rattle.slotted_graph.proofs.egraph.EGraph.add_expr_quietly.Goals as goal

pub add_expr-requires-clause-fresh_slots : goal.add_expr-requires-clause-fresh_slots
add_expr-requires-clause-fresh_slots g c = elim c.self.invariant [ inl e ↦ absurd (false≢true (sym c.if-self.false ∙ e)) | inr v ↦ v.1 ]

pub add_expr-requires-clause-valid : goal.add_expr-requires-clause-valid
add_expr-requires-clause-valid g c = elim c.requires [
  | inl e ↦ absurd (false≢true (sym c.if-self.false ∙ (ap (λ (x : Graph). x.failed) c.self.view_is ∙ e)))
  | inr v ↦ subst (λ (t : Table). IsValidTerm t c.args.term.now) (sym (ap (λ (x : Graph). x.table) c.self.view_is)) v
]

pub invariant_of-self-2 : goal.invariant_of-self-2
invariant_of-self-2 g c =
    let h = c.args.self.now in
    let k = c.self.inside.store in
    let r = c.self.inside.nodes in
    let t = c.self.inside.table in
    let inside = inside-of t k r c.self.view_is c.if-self.false c.self.invariant in
    let w = c.args.term.now in
    let is = told-by t k r c.self.view_is c.if-self.false c.self.invariant in
    let p = term-reached _ w t k r inside.good inside.rests inside.fresh h is (part_by g.N.Analysis.codes c.self.inside.analysis c.self.inside.rounds c.add_expr.new.data) c.add_expr.new.table c.add_expr.new.store c.add_expr.new.nodes (to_applied c.in_ok-answer.answer) c.in_ok-answer.ensures.ok in
    inr (p.good, p.fresh_slots, p.rests, no-index _ c.clear.new.self.indexed c.clear.ensures, c.in_ok-answer.ensures.carried.rests)

pub returns-clause-id : goal.returns-clause-id
returns-clause-id g c =
    let h = c.args.self.now in
    let k = c.self.inside.store in
    let r = c.self.inside.nodes in
    let t = c.self.inside.table in
    let inside = inside-of t k r c.self.view_is c.if-self.false c.self.invariant in
    let w = c.args.term.now in
    let is = told-by t k r c.self.view_is c.if-self.false c.self.invariant in
    term-id _ w t k r inside.good inside.rests inside.fresh h is (part_by g.N.Analysis.codes c.self.inside.analysis c.self.inside.rounds c.add_expr.new.data) c.add_expr.new.table c.add_expr.new.store c.add_expr.new.nodes (to_applied c.in_ok-answer.answer) c.in_ok-answer.ensures.ok

pub returns-clause-found : goal.returns-clause-found
returns-clause-found g c =
    let h = c.args.self.now in
    let k = c.self.inside.store in
    let r = c.self.inside.nodes in
    let t = c.self.inside.table in
    let inside = inside-of t k r c.self.view_is c.if-self.false c.self.invariant in
    let w = c.args.term.now in
    let is = told-by t k r c.self.view_is c.if-self.false c.self.invariant in
    term-found _ w t k r inside.good inside.rests inside.fresh h is (part_by g.N.Analysis.codes c.self.inside.analysis c.self.inside.rounds c.add_expr.new.data) c.add_expr.new.table c.add_expr.new.store c.add_expr.new.nodes (to_applied c.in_ok-answer.answer) c.in_ok-answer.ensures.ok

pub returns-clause-equal : goal.returns-clause-equal
returns-clause-equal g c =
    let h = c.args.self.now in
    let k = c.self.inside.store in
    let r = c.self.inside.nodes in
    let t = c.self.inside.table in
    let inside = inside-of t k r c.self.view_is c.if-self.false c.self.invariant in
    let w = c.args.term.now in
    let is = told-by t k r c.self.view_is c.if-self.false c.self.invariant in
    term-equal _ w t k r inside.good inside.rests inside.fresh h is (part_by g.N.Analysis.codes c.self.inside.analysis c.self.inside.rounds c.add_expr.new.data) c.add_expr.new.table c.add_expr.new.store c.add_expr.new.nodes (to_applied c.in_ok-answer.answer) c.in_ok-answer.ensures.ok

pub returns-clause-kept : goal.returns-clause-kept
returns-clause-kept g c =
    let rested = data-inside g.N.Analysis.meaning c.self.inside.analysis c.if-self.false c.self.invariant in
    let h = c.args.self.now in
    let k = c.self.inside.store in
    let r = c.self.inside.nodes in
    let t = c.self.inside.table in
    let inside = inside-of t k r c.self.view_is c.if-self.false c.self.invariant in
    let w = c.args.term.now in
    let is = told-by t k r c.self.view_is c.if-self.false c.self.invariant in
    term-kept _ w t k r inside.good inside.rests inside.fresh h is (part_by g.N.Analysis.codes c.self.inside.analysis c.self.inside.rounds c.add_expr.new.data) c.add_expr.new.table c.add_expr.new.store c.add_expr.new.nodes (to_applied c.in_ok-answer.answer) c.in_ok-answer.ensures.ok
    (λ same. kept-part g.N.Analysis.codes g.N.Analysis.meaning c.self.inside.analysis c.self.inside.rounds k r c.self.inside.data rested c.add_expr.new.store same c.add_expr.new.data c.in_ok-answer.ensures.still)

pub returns-clause-nodes : goal.returns-clause-nodes
returns-clause-nodes g c =
    let h = c.args.self.now in
    let k = c.self.inside.store in
    let r = c.self.inside.nodes in
    let t = c.self.inside.table in
    let inside = inside-of t k r c.self.view_is c.if-self.false c.self.invariant in
    let w = c.args.term.now in
    let is = told-by t k r c.self.view_is c.if-self.false c.self.invariant in
    term-nodes _ w t k r inside.good inside.rests inside.fresh h is (part_by g.N.Analysis.codes c.self.inside.analysis c.self.inside.rounds c.add_expr.new.data) c.add_expr.new.table c.add_expr.new.store c.add_expr.new.nodes (to_applied c.in_ok-answer.answer) c.in_ok-answer.ensures.ok

pub returns-clause-filed : goal.returns-clause-filed
returns-clause-filed g c =
    let h = c.args.self.now in
    let k = c.self.inside.store in
    let r = c.self.inside.nodes in
    let t = c.self.inside.table in
    let inside = inside-of t k r c.self.view_is c.if-self.false c.self.invariant in
    let w = c.args.term.now in
    let is = told-by t k r c.self.view_is c.if-self.false c.self.invariant in
    term-filed _ w t k r inside.good inside.rests inside.fresh h is (part_by g.N.Analysis.codes c.self.inside.analysis c.self.inside.rounds c.add_expr.new.data) c.add_expr.new.table c.add_expr.new.store c.add_expr.new.nodes (to_applied c.in_ok-answer.answer) c.in_ok-answer.ensures.ok

pub returns-clause-answers : goal.returns-clause-answers
returns-clause-answers g c =
    let h = c.args.self.now in
    let k = c.self.inside.store in
    let r = c.self.inside.nodes in
    let t = c.self.inside.table in
    let inside = inside-of t k r c.self.view_is c.if-self.false c.self.invariant in
    let w = c.args.term.now in
    let is = told-by t k r c.self.view_is c.if-self.false c.self.invariant in
    term-answers _ w t k r inside.good inside.rests inside.fresh h is (part_by g.N.Analysis.codes c.self.inside.analysis c.self.inside.rounds c.add_expr.new.data) c.add_expr.new.table c.add_expr.new.store c.add_expr.new.nodes (to_applied c.in_ok-answer.answer) c.in_ok-answer.ensures.ok

pub returns-clause-extends : goal.returns-clause-extends
returns-clause-extends g c =
    let h = c.args.self.now in
    let k = c.self.inside.store in
    let r = c.self.inside.nodes in
    let t = c.self.inside.table in
    let inside = inside-of t k r c.self.view_is c.if-self.false c.self.invariant in
    let w = c.args.term.now in
    let is = told-by t k r c.self.view_is c.if-self.false c.self.invariant in
    subst (λ (x : Graph). Extends x.image.canonical (nodes_of c.add_expr.new.store)) is (term-reached _ w t k r inside.good inside.rests inside.fresh h is (part_by g.N.Analysis.codes c.self.inside.analysis c.self.inside.rounds c.add_expr.new.data) c.add_expr.new.table c.add_expr.new.store c.add_expr.new.nodes (to_applied c.in_ok-answer.answer) c.in_ok-answer.ensures.ok).extends

pub returns-clause-adds : goal.returns-clause-adds
returns-clause-adds g c =
    let h = c.args.self.now in
    let k = c.self.inside.store in
    let r = c.self.inside.nodes in
    let t = c.self.inside.table in
    let inside = inside-of t k r c.self.view_is c.if-self.false c.self.invariant in
    let w = c.args.term.now in
    let is = told-by t k r c.self.view_is c.if-self.false c.self.invariant in
    subst (λ (x : Graph). AddsClasses x.image (image_of c.add_expr.new.store)) is (term-reached _ w t k r inside.good inside.rests inside.fresh h is (part_by g.N.Analysis.codes c.self.inside.analysis c.self.inside.rounds c.add_expr.new.data) c.add_expr.new.table c.add_expr.new.store c.add_expr.new.nodes (to_applied c.in_ok-answer.answer) c.in_ok-answer.ensures.ok).adds

pub returns-clause-takes : goal.returns-clause-takes
returns-clause-takes g c =
    let h = c.args.self.now in
    let k = c.self.inside.store in
    let r = c.self.inside.nodes in
    let t = c.self.inside.table in
    let inside = inside-of t k r c.self.view_is c.if-self.false c.self.invariant in
    let w = c.args.term.now in
    let is = told-by t k r c.self.view_is c.if-self.false c.self.invariant in
    inr (term-takes _ w t k r inside.good inside.rests inside.fresh h is c.add_expr.new.table c.add_expr.ensures.takes)

pub returns-in_err-answer-clause-takes : goal.returns-in_err-answer-clause-takes
returns-in_err-answer-clause-takes g c =
    let h = c.args.self.now in
    let k = c.self.inside.store in
    let r = c.self.inside.nodes in
    let t = c.self.inside.table in
    let inside = inside-of t k r c.self.view_is c.if-self.false c.self.invariant in
    let w = c.args.term.now in
    let is = told-by t k r c.self.view_is c.if-self.false c.self.invariant in
    inr (term-takes _ w t k r inside.good inside.rests inside.fresh h is c.add_expr.new.table c.add_expr.ensures.takes)

pub returns-in_err-answer-clause-full : goal.returns-in_err-answer-clause-full
returns-in_err-answer-clause-full g c e =
    let h = c.args.self.now in
    let k = c.self.inside.store in
    let r = c.self.inside.nodes in
    let t = c.self.inside.table in
    let inside = inside-of t k r c.self.view_is c.if-self.false c.self.invariant in
    let w = c.args.term.now in
    let is = told-by t k r c.self.view_is c.if-self.false c.self.invariant in
    term-lacks _ w t k r inside.good inside.rests inside.fresh h is c.add_expr.new.table (c.in_err-answer.ensures.full (search rules))

pub add_expr-requires-clause-since : goal.add_expr-requires-clause-since
add_expr-requires-clause-since g c = data-inside g.N.Analysis.meaning c.self.inside.analysis c.if-self.false c.self.invariant

pub returns-clause-carries : goal.returns-clause-carries
returns-clause-carries g c =
    let k = c.self.inside.store in
    let r = c.self.inside.nodes in
    let t = c.self.inside.table in
    let inside = inside-of t k r c.self.view_is c.if-self.false c.self.invariant in
    let rested = data-inside g.N.Analysis.meaning c.self.inside.analysis c.if-self.false c.self.invariant in
    carries-data g.N.Analysis.codes g.N.Analysis.meaning c.self.inside.analysis c.self.inside.rounds k r c.self.inside.data c.args.self.now inside.image (sym (ap (λ (x : Graph). x.part) c.self.view_is)) rested inside.filed c.add_expr.new.store c.add_expr.new.nodes c.add_expr.new.data _ refl refl (reached c.args.term.now t k r inside.good inside.rests inside.fresh (term_nodes c.args.term.now) c.add_expr.new.table c.add_expr.new.store c.add_expr.new.nodes c.in_ok-answer.ensures.ok.nodes).goes_on c.in_ok-answer.ensures.carried

pub returns-clause-rests : goal.returns-clause-rests
returns-clause-rests g c =
    let h = c.args.self.now in
    let k = c.self.inside.store in
    let r = c.self.inside.nodes in
    let t = c.self.inside.table in
    let inside = inside-of t k r c.self.view_is c.if-self.false c.self.invariant in
    let w = c.args.term.now in
    let is = told-by t k r c.self.view_is c.if-self.false c.self.invariant in
    let p = term-reached _ w t k r inside.good inside.rests inside.fresh h is (part_by g.N.Analysis.codes c.self.inside.analysis c.self.inside.rounds c.add_expr.new.data) c.add_expr.new.table c.add_expr.new.store c.add_expr.new.nodes (to_applied c.in_ok-answer.answer) c.in_ok-answer.ensures.ok in
    inr (rebuilt-by c.add_expr.new.table c.add_expr.new.store c.add_expr.new.nodes _ p.good p.fresh_slots p.rests)
