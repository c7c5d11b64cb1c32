use Rattle.std.proofs.Common.{◌∙◌, ◌<◌, ◌+◌, ℕ, length, sym, inl, inr}
use Rattle.std.proofs.lemmas.Bool.{cases_lt, false≢true}
use Rattle.slotted_slots.specs.Table.{slot_limit}
use Rattle.slotted_nodes.specs.Form.{Form, children}
use Rattle.slotted_matching.proofs.SkeletonPlaces.{few-outlined}
use Rattle.slotted_matching.proofs.skeletons.small_skeleton.Goals as goal

pub skeleton-requires : goal.skeleton-requires
skeleton-requires g c =
    let f : Form = g.L.LanguageChildren.form c.args.node.now in
    let n : ℕ = length f.names + length (children f.tree) in
    let few : n < slot_limit = elim (cases_lt n slot_limit) [
      | inl l ↦ l
      | inr many ↦ absurd (false≢true (sym c.if-has_many_places.false ∙ c.has_many_places.ensures.1 many))
    ] in
    few-outlined 0 f slot_limit (g.met.L.LanguageChildren.fits c.args.node.now) few
