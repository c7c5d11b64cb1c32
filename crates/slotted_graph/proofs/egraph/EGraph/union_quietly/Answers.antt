use Rattle.std.specs.Prelude.{false}
use Rattle.slotted_hashcons.specs.FiledRows.{rows_in}
use Rattle.slotted_data.specs.Part.{part_by}
use Rattle.slotted_operations.specs.Graph.{Graph}
use Rattle.slotted_graph.proofs.CountedGraphs.{counts-union}
use Rattle.std.proofs.Common.{◌∙◌, refl, sym, inl, inr, ap}
use Rattle.std.proofs.lemmas.Bool.{false≢true}
use Rattle.slotted_proofs.specs.Equations.{to_applied}
use Rattle.slotted_operations.specs.ValidIds.{IsValidId}
use Rattle.slotted_operations.specs.Good.{graph_of, image_of}
use Rattle.slotted_operations.proofs.Additions.NewClasses.{grown-fresh}
use Rattle.slotted_operations.proofs.Ids.ValidIds.{of-valid}
use Rattle.slotted_graph.proofs.Measured.{never-rises}
use Rattle.slotted_graph.proofs.Indexes.{no-index}
use Rattle.slotted_graph.proofs.Insides.{data-inside, given, inside-of, rebuilt-by}
use Rattle.slotted_graph.proofs.Analysed.{carries-data}
use Rattle.slotted_graph.proofs.egraph.EGraph.union_quietly.Goals as goal

pub union-requires-clause-left : goal.union-requires-clause-left
union-requires-clause-left l c =
    let inside = inside-of c.self.inside.table c.self.inside.store c.self.inside.nodes c.self.view_is c.if-self.false c.self.invariant in
    let g = c.args.self.now in
    let core = c.self.inside.store in
    let left : IsValidId g (to_applied c.args.l.now) = given inside.failed c.requires.left in
    of-valid core inside.good g inside.image (to_applied c.args.l.now) left

pub union-requires-clause-right : goal.union-requires-clause-right
union-requires-clause-right l c =
    let inside = inside-of c.self.inside.table c.self.inside.store c.self.inside.nodes c.self.view_is c.if-self.false c.self.invariant in
    let g = c.args.self.now in
    let core = c.self.inside.store in
    let right : IsValidId g (to_applied c.args.r.now) = given inside.failed c.requires.right in
    of-valid core inside.good g inside.image (to_applied c.args.r.now) right

pub invariant_of-self-2 : goal.invariant_of-self-2
invariant_of-self-2 g c = elim c.self.invariant [
  | inl h ↦ absurd (false≢true (sym c.if-self.false ∙ h))
  | inr h ↦ inr (
    c.in_ok-answer.ensures.ok.good,
    grown-fresh c.self.inside.table c.self.inside.store c.union.new.store c.in_ok-answer.ensures.ok.nodes h.1,
    c.in_ok-answer.ensures.ok.rests,
    no-index _ c.clear.new.self.indexed c.clear.ensures,
    c.in_ok-answer.ensures.carried.rests,
  )
]

pub returns-clause-counts : goal.returns-clause-counts
returns-clause-counts l c =
    let inside = inside-of c.self.inside.table c.self.inside.store c.self.inside.nodes c.self.view_is c.if-self.false c.self.invariant in
    let core = c.self.inside.store in
    let ok = c.in_ok-answer.ensures.ok in
    never-rises core c.union.new.store inside.good ok.good ok.nodes ok.counts c.args.self.now.image (image_of c.union.new.store) inside.image refl

pub returns-clause-counted : goal.returns-clause-counted
returns-clause-counted l c =
    let inside = inside-of c.self.inside.table c.self.inside.store c.self.inside.nodes c.self.view_is c.if-self.false c.self.invariant in
    let h : Graph = graph_of false c.self.inside.table c.union.new.store (rows_in c.union.new.nodes.filed) (part_by l.N.Analysis.codes c.self.inside.analysis c.self.inside.rounds c.union.new.data) in
    counts-union c.self.inside.store c.self.inside.nodes c.union.new.store c.union.new.nodes _ _ _ _ inside.good c.in_ok-answer.ensures.ok c.args.self.now h inside.image inside.filed refl

pub union-requires-clause-since : goal.union-requires-clause-since
union-requires-clause-since g c = data-inside g.N.Analysis.meaning c.self.inside.analysis c.if-self.false c.self.invariant

pub returns-clause-carries : goal.returns-clause-carries
returns-clause-carries g c =
    let k = c.self.inside.store in
    let r = c.self.inside.nodes in
    let t = c.self.inside.table in
    let inside = inside-of t k r c.self.view_is c.if-self.false c.self.invariant in
    let rested = data-inside g.N.Analysis.meaning c.self.inside.analysis c.if-self.false c.self.invariant in
    carries-data g.N.Analysis.codes g.N.Analysis.meaning c.self.inside.analysis c.self.inside.rounds k r c.self.inside.data c.args.self.now inside.image (sym (ap (λ (x : Graph). x.part) c.self.view_is)) rested inside.filed c.union.new.store c.union.new.nodes c.union.new.data _ refl refl c.in_ok-answer.ensures.ok.goes_on c.in_ok-answer.ensures.carried

pub returns-clause-rests : goal.returns-clause-rests
returns-clause-rests g c =
    let inside = inside-of c.self.inside.table c.self.inside.store c.self.inside.nodes c.self.view_is c.if-self.false c.self.invariant in
    let ok = c.in_ok-answer.ensures.ok in
    inr (rebuilt-by c.self.inside.table c.union.new.store c.union.new.nodes _ ok.good (grown-fresh c.self.inside.table c.self.inside.store c.union.new.store ok.nodes inside.fresh) ok.rests)
