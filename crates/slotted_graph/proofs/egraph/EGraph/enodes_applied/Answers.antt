use Rattle.std.proofs.Common.{◌∙◌, refl, sym, subst, inl, inr}
use Rattle.std.specs.Prelude.{All}
use Rattle.std.proofs.lemmas.Bool.{false≢true}
use Rattle.std.proofs.lemmas.Result.{IfOk-weaker}
use Rattle.slotted_slots.specs.Table.{Table, AllKnown}
use Rattle.slotted_model.specs.Applied.{values}
use Rattle.slotted_proofs.specs.Equations.{to_applied}
use Rattle.slotted_classes.specs.Finding.{IsFindable}
use Rattle.slotted_lookup.specs.Reports.{class_sources}
use Rattle.slotted_reports.specs.Nodes.{AreEnodes, HasFreshNames, RunsOutForKeys}
use Rattle.slotted_operations.specs.Graph.{Graph, MakesAtMost}
use Rattle.slotted_operations.specs.ValidIds.{IsValidId}
use Rattle.slotted_operations.proofs.Graphs.FreshSlots.{fresh_slots-more}
use Rattle.slotted_operations.proofs.Graphs.Reports.{within}
use Rattle.slotted_operations.proofs.Ids.ValidIds.{of-valid}
use Rattle.slotted_graph.specs.FiledNodes.{AscendByShape, HasEachNode, IsNoneIfDead, slots_for_enodes}
use Rattle.slotted_graph.proofs.Enodes.{each-node, enodes, none-dead, permuted-same, runs-out_of, takes-found}
use Rattle.slotted_graph.proofs.Insides.{inside-of, given}
use Rattle.slotted_graph.proofs.egraph.EGraph.enodes_applied.Goals as goal

pub enodes_applied-requires-clause-good : goal.enodes_applied-requires-clause-good
enodes_applied-requires-clause-good l c = elim c.self.invariant [ inl h ↦ absurd (false≢true (sym c.if-self.false ∙ h)) | inr h ↦ h.2.filed ]

pub enodes_applied-requires-clause-quiet : goal.enodes_applied-requires-clause-quiet
enodes_applied-requires-clause-quiet l c = elim c.self.invariant [ inl h ↦ absurd (false≢true (sym c.if-self.false ∙ h)) | inr h ↦ h.2.quiet ]

pub enodes_applied-requires-clause-findable : goal.enodes_applied-requires-clause-findable
enodes_applied-requires-clause-findable l c =
    let g = c.args.self.now in
    let k = c.self.inside.store in
    let inside = inside-of c.self.inside.table k c.self.inside.nodes c.self.view_is c.if-self.false c.self.invariant in
    let valid : IsValidId g (to_applied c.args.a.now) = given inside.failed c.requires in
    of-valid k inside.good g inside.image (to_applied c.args.a.now) valid

pub enodes_applied-requires-clause-known : goal.enodes_applied-requires-clause-known
enodes_applied-requires-clause-known l c =
    let inside = inside-of c.self.inside.table c.self.inside.store c.self.inside.nodes c.self.view_is c.if-self.false c.self.invariant in
    let g = c.args.self.now in
    let a = to_applied c.args.a.now in
    let valid : IsValidId g a = given inside.failed c.requires in
    subst (λ (t : Table). AllKnown t (values a.1)) (sym inside.table) valid.known

pub invariant_of-self : goal.invariant_of-self
invariant_of-self g c = elim c.self.invariant [
  | inl h ↦ inl h
  | inr h ↦ inr (h.0, fresh_slots-more c.self.inside.table c.enodes_applied.new.table c.self.inside.store c.enodes_applied.ensures.more h.1, h.2, h.3, h.4)
]

pub returns-clause-each : goal.returns-clause-each
returns-clause-each l c =
    let form = l.L.LanguageChildren.form in
    let g = c.args.self.now in
    let k = c.self.inside.store in
    let r = c.self.inside.nodes in
    let inside = inside-of c.self.inside.table k r c.self.view_is c.if-self.false c.self.invariant in
    let a = to_applied c.args.a.now in
    IfOk-weaker c.enodes_applied.result (λ v. AreEnodes form l.L.Ord.cmp c.self.inside.table c.enodes_applied.new.table k r a v.items) (λ v. HasEachNode form g a.0 v.items)
    (λ v is. each-node k r inside.good inside.rests g inside.image inside.filed a.0 form l.met.L.LanguageChildren.fits is.sources v.items is.same
    (permuted-same _ _ is.nodes.keys))
    c.enodes_applied.ensures.ok

pub returns-clause-ascend : goal.returns-clause-ascend
returns-clause-ascend l c =
    let form = l.L.LanguageChildren.form in
    IfOk-weaker c.enodes_applied.result (λ v. AreEnodes form l.L.Ord.cmp c.self.inside.table c.enodes_applied.new.table c.self.inside.store c.self.inside.nodes (to_applied c.args.a.now) v.items)
    (λ v. AscendByShape form l.L.Ord.cmp v.items) (λ v is. is.ascend) c.enodes_applied.ensures.ok

pub returns-clause-nodes : goal.returns-clause-nodes
returns-clause-nodes l c =
    let form = l.L.LanguageChildren.form in
    let g = c.args.self.now in
    let k = c.self.inside.store in
    let r = c.self.inside.nodes in
    let inside = inside-of c.self.inside.table k r c.self.view_is c.if-self.false c.self.invariant in
    let a = to_applied c.args.a.now in
    let valid : IsValidId g a = given inside.failed c.requires in
    let findable : IsFindable k a = of-valid k inside.good g inside.image a valid in
    IfOk-weaker c.enodes_applied.result (λ v. AreEnodes form l.L.Ord.cmp c.self.inside.table c.enodes_applied.new.table k r a v.items) _
    (λ v is. enodes k r inside.good inside.rests _ refl refl a findable form l.met.L.LanguageChildren.fits v.items c.self.inside.table is.nodes.each) c.enodes_applied.ensures.ok

pub returns-clause-full : goal.returns-clause-full
returns-clause-full l c out =
    let k = c.self.inside.store in
    let r = c.self.inside.nodes in
    let inside = inside-of c.self.inside.table k r c.self.view_is c.if-self.false c.self.invariant in
    runs-out_of k r inside.good inside.rests c.args.self.now c.enodes_applied.new.table inside.image inside.filed
    c.args.a.now.id.0 (subst (λ (t : Table). RunsOutForKeys r (class_sources k r c.args.a.now.id.0) t c.enodes_applied.new.table) inside.table (c.enodes_applied.ensures.full out))

pub returns-clause-dead : goal.returns-clause-dead
returns-clause-dead l c =
    let form = l.L.LanguageChildren.form in
    let g = c.args.self.now in
    let k = c.self.inside.store in
    let r = c.self.inside.nodes in
    let inside = inside-of c.self.inside.table k r c.self.view_is c.if-self.false c.self.invariant in
    let a = to_applied c.args.a.now in
    let valid : IsValidId g a = given inside.failed c.requires in
    IfOk-weaker c.enodes_applied.result (λ v. AreEnodes form l.L.Ord.cmp c.self.inside.table c.enodes_applied.new.table k r a v.items) (λ v. IsNoneIfDead g a.0 v.items)
    (λ v is dead. none-dead k r inside.good inside.rests g inside.image inside.filed a.0 form (within k g.image inside.image a.0 valid.in_range) dead is.sources v.items is.same (permuted-same _ _ is.nodes.keys))
    c.enodes_applied.ensures.ok

pub returns-clause-fresh : goal.returns-clause-fresh
returns-clause-fresh l c =
    let form = l.L.LanguageChildren.form in
    let a = to_applied c.args.a.now in
    IfOk-weaker c.enodes_applied.result (λ v. AreEnodes form l.L.Ord.cmp c.self.inside.table c.enodes_applied.new.table c.self.inside.store c.self.inside.nodes a v.items)
    (λ v. All (λ n. HasFreshNames c.args.self.now.table (values a.1) (form n)) v.items)
    (λ v is. subst (λ (x : Graph). All (λ n. HasFreshNames x.table (values a.1) (form n)) v.items) c.self.view_is (λ j d h. (is.nodes.each j d h).fresh)) c.enodes_applied.ensures.ok

pub returns-clause-count : goal.returns-clause-count
returns-clause-count l c =
    let g = c.args.self.now in
    let k = c.self.inside.store in
    let r = c.self.inside.nodes in
    let inside = inside-of c.self.inside.table k r c.self.view_is c.if-self.false c.self.invariant in
    let a = to_applied c.args.a.now in
    let u = c.enodes_applied.new.table in
    subst (λ (x : Graph). MakesAtMost (slots_for_enodes g a.0) x.table u) c.self.view_is (record {
      names = c.enodes_applied.ensures.kept;
      taken = takes-found k r inside.good inside.rests g inside.image inside.filed a.0 c.self.inside.table u c.enodes_applied.ensures.takes;
    })
