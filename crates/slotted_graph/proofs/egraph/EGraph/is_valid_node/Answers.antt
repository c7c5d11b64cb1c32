use Rattle.std.proofs.Common.{◌≡◌, ◌∙◌, false, true, ap, sym, subst, inl, inr}
use Rattle.std.specs.Prelude.{not}
use Rattle.std.proofs.lemmas.Bool.{false≢true}
use Rattle.slotted_slots.specs.Table.{Table, AllKnown}
use Rattle.slotted_operations.specs.Good.{Good, image_of}
use Rattle.slotted_operations.specs.Graph.{Graph}
use Rattle.slotted_operations.proofs.Ids.ValidIds.{node-children_find, node-children_valid}
use Rattle.slotted_graph.proofs.egraph.EGraph.is_valid_node.Goals as goal

pub returns-then-not-self : goal.returns-then-not-self
returns-then-not-self l c =
    let g = c.args.self.now in
    let core = c.self.inside.store in
    let good : Good core = elim c.self.invariant [ inl h ↦ absurd (false≢true (sym c.if-not-self.true ∙ h)) | inr h ↦ h.0 ] in
    let image : image_of core ≡ g.image = ap (λ (x : Graph). x.image) c.self.view_is in
    let table : c.self.inside.table ≡ g.table = ap (λ (x : Graph). x.table) c.self.view_is in
    let well : g.failed ≡ false = sym (ap (λ (x : Graph). x.failed) c.self.view_is) ∙ c.if-not-self.true in
    let f = l.L.LanguageChildren.form c.args.node.now in (
      λ y.
          let v = c.is_valid_node.ensures.0 y in
          let known = subst (λ (t : Table). AllKnown t f.names) table v.1 in
          (well, record { few = v.0; known = known; children = node-children_valid core good g image f known v.2 }),
      λ v. c.is_valid_node.ensures.1 (v.1.few, subst (λ (t : Table). AllKnown t f.names) (sym table) v.1.known, node-children_find core good g image f v.1.children),
    )

pub returns-else-not-self : goal.returns-else-not-self
returns-else-not-self l c =
    let g = c.args.self.now in
    let ill : g.failed ≡ true = sym (ap (λ (x : Graph). x.failed) c.self.view_is) ∙ c.if-not-self.false in
    (λ y. absurd (false≢true (sym (ap not c.if-not-self.false) ∙ y)), λ v. absurd (false≢true (sym v.0 ∙ ill)))
