use Rattle.std.proofs.Common.{◌≡◌, ◌∙◌, ap, sym, subst, inl, inr}
use Rattle.std.specs.Prelude.{◌↔◌}
use Rattle.std.proofs.lemmas.Bool.{false≢true}
use Rattle.slotted_model.specs.Find.{IsLive}
use Rattle.slotted_classes.specs.Kept.{entries_of}
use Rattle.slotted_operations.specs.Causes.{class_found}
use Rattle.slotted_operations.specs.Good.{Good, image_of}
use Rattle.slotted_operations.specs.Graph.{Graph}
use Rattle.slotted_operations.specs.Image.{Image}
use Rattle.slotted_operations.specs.Reports.{HasClass}
use Rattle.slotted_operations.proofs.Graphs.Reports.{live-is, within}
use Rattle.slotted_graph.proofs.egraph.EGraph.is_alive.Goals as goal

pub is_alive-requires : goal.is_alive-requires
is_alive-requires l c =
    let g = c.args.self.now in
    let has : HasClass g c.args.id.0 = c.is_valid_id.ensures.0 c.if-is_valid_id.true in
    within c.self.inside.store g.image (ap (λ (x : Graph). x.image) c.self.view_is) c.args.id.0 has.1

pub returns-then-is_valid_id : goal.returns-then-is_valid_id
returns-then-is_valid_id l c =
    let g = c.args.self.now in
    let i = c.args.id.0 in
    let core = c.self.inside.store in
    let image : image_of core ≡ g.image = ap (λ (x : Graph). x.image) c.self.view_is in
    let sound = ap (λ (x : Graph). x.failed) c.self.view_is in
    let has : HasClass g i = c.is_valid_id.ensures.0 c.if-is_valid_id.true in
    let good : Good core = elim c.self.invariant [ inl h ↦ absurd (false≢true (sym has.0 ∙ (sym sound ∙ h))) | inr h ↦ h.0 ] in
    let live : IsLive (entries_of core) i ↔ (class_found g.image i ≡ i) =
    subst (λ (x : Image). IsLive (entries_of core) i ↔ (class_found x i ≡ i)) image (live-is core good i (within core g.image image i has.1)) in
    (λ y. (has, live.0 (c.is_alive.ensures.0 y)), λ v. c.is_alive.ensures.1 (live.1 v.1))
