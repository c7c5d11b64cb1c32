-- The numbers so far are used.
use Rattle.std.proofs.Common.{◌≡◌, ◌<◌, ℕ, true}
use Rattle.std.specs.Prelude.{nat_eq}
use Rattle.std.specs.List.{list_any}
use Rattle.slotted_slots.specs.Table.{numeric_slot}
use Rattle.slotted_explain.proofs.flat_terms.unused.Given as goal

abbrev pub invariant-loop-n : goal.invariant-loop-n
invariant-loop-n l = (q : ℕ) → q < l.n → list_any (λ y. nat_eq y (numeric_slot q)) l.used ≡ true
