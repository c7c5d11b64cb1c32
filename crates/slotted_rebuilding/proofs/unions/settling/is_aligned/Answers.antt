use Rattle.std.proofs.Common.{◌↔◌, ℕ, sym, subst}
use Rattle.std.specs.Prelude.{Contains}
use Rattle.slotted_lists.proofs.Contained.{Contains-map}
use Rattle.slotted_model.specs.Applied.{Applied, values}
use Rattle.slotted_classes.specs.Kept.{symmetry_entry}
use Rattle.slotted_classes.specs.StateOf.{symmetry_of_entry}
use Rattle.slotted_rebuilding.proofs.ListedSides.{aligned-iff}
use Rattle.slotted_rebuilding.proofs.unions.settling.is_aligned.Goals as goal

pub returns-clause-ok : goal.returns-clause-ok
returns-clause-ok g c =
    let k = c.args.store.now in
    let e = symmetry_entry c.args.symmetry.now in
    let sides = c.requires.good.sides e c.requires.listed in
    let both = aligned-iff k c.requires.good e sides (c.requires.good.sane.each_listed (symmetry_of_entry e) (Contains-map symmetry_of_entry k.symmetries e c.requires.listed)) in
    let same : Applied × Applied → Type 0 = λ w. (x : ℕ) → Contains (values w.0.1) x ↔ Contains (values w.1.1) x in (
      λ t. both.0 (subst same (λ i. (c.in_ok-left.ensures.ok i, c.in_ok-right.ensures.ok i)) (c.have_same_values.ensures.0 t)),
      λ a. c.have_same_values.ensures.1 (subst same (sym (λ i. (c.in_ok-left.ensures.ok i, c.in_ok-right.ensures.ok i))) (both.1 a)),
    )

pub found_id-requires-clause-findable : goal.found_id-requires-clause-findable
found_id-requires-clause-findable g c = (c.requires.good.sides (symmetry_entry c.args.symmetry.now) c.requires.listed).left

pub found_id-requires-2-clause-findable : goal.found_id-requires-2-clause-findable
found_id-requires-2-clause-findable g c = (c.requires.good.sides (symmetry_entry c.args.symmetry.now) c.requires.listed).right
