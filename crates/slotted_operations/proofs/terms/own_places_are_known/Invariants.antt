use Rattle.std.proofs.Common.{◌<◌, ◌⊎◌, ℕ, IsTrue, get_or}
use Rattle.slotted_slots.specs.Table.{is_known}
use Rattle.slotted_operations.specs.Nodes.{IsChildPlace}
use Rattle.slotted_operations.proofs.terms.own_places_are_known.Given as goal

abbrev pub invariant-loop-i : goal.invariant-loop-i
invariant-loop-i g l =
    let f = g.L.LanguageChildren.form l.node in
    (j : ℕ) → j < l.i → IsChildPlace f.tree j ⊎ IsTrue (is_known l.table (get_or f.names j 0))
