use Rattle.std.proofs.Common.{◌≡◌, ◌∙◌, false, true, ap, sym, subst, inl, inr}
use Rattle.std.specs.Prelude.{not}
use Rattle.std.proofs.lemmas.Bool.{false≢true}
use Rattle.slotted_slots.specs.Table.{Table, AllKnown}
use Rattle.slotted_model.specs.Applied.{values}
use Rattle.slotted_operations.specs.Good.{Good, image_of}
use Rattle.slotted_operations.specs.Graph.{Graph}
use Rattle.slotted_proofs.specs.Equations.{to_applied}
use Rattle.slotted_operations.proofs.Ids.ValidIds.{to-valid, of-valid}
use Rattle.slotted_graph.proofs.egraph.EGraph.is_valid.Goals as goal

pub returns-then-not-self : goal.returns-then-not-self
returns-then-not-self l c =
    let g = c.args.self.now in
    let core = c.self.inside.store in
    let good : Good core = elim c.self.invariant [ inl h ↦ absurd (false≢true (sym c.if-not-self.true ∙ h)) | inr h ↦ h.0 ] in
    let image : image_of core ≡ g.image = ap (λ (x : Graph). x.image) c.self.view_is in
    let table : c.self.inside.table ≡ g.table = ap (λ (x : Graph). x.table) c.self.view_is in
    let well : g.failed ≡ false = sym (ap (λ (x : Graph). x.failed) c.self.view_is) ∙ c.if-not-self.true in
    let a = to_applied c.args.a.now in (
      λ y. let f = c.is_valid.ensures.0 y in (well, to-valid core good g image a f.0 (subst (λ (t : Table). AllKnown t (values a.1)) table f.1)),
      λ v. c.is_valid.ensures.1 (of-valid core good g image a v.1, subst (λ (t : Table). AllKnown t (values a.1)) (sym table) v.1.known),
    )

pub returns-else-not-self : goal.returns-else-not-self
returns-else-not-self l c =
    let g = c.args.self.now in
    let ill : g.failed ≡ true = sym (ap (λ (x : Graph). x.failed) c.self.view_is) ∙ c.if-not-self.false in
    (λ y. absurd (false≢true (sym (ap not c.if-not-self.false) ∙ y)), λ v. absurd (false≢true (sym v.0 ∙ ill)))
