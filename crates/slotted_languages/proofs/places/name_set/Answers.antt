-- The loop has gone through all names, and the set of a list has its elements.
use Rattle.std.proofs.Common.{refl, fold, ap, ◌∙◌, List, ℕ}
use Rattle.std.specs.Ordering.{nat_cmp}
use Rattle.slotted_slots.specs.Maps.{is_among}
use Rattle.slotted_slots.specs.Sets.{insert_key}
use Rattle.slotted_slots.proofs.Ascending.{is_among-set_of}
use Rattle.slotted_slots.proofs.Loops.{folded_all}
use Rattle.slotted_languages.proofs.places.name_set.Goals as goal

pub returns-clause-members : goal.returns-clause-members
returns-clause-members c v =
    let names = c.args.names.now in
    let whole = folded_all (λ (s : List ℕ) (m : List ℕ). fold (insert_key nat_cmp) s m) (λ _. refl) c.loop-name.set _ names c.loop-name.name-index c.loop-name-test.false c.loop-name.invariant in
    ap (is_among v) whole ∙ is_among-set_of v names
