-- The names that are left.
use Rattle.std.proofs.Common.{◌≡◌, drop}
use Rattle.slotted_theory.specs.Decided.{numbers_eq}
use Rattle.slotted_match_machine.specs.Views.{names_at}
use Rattle.slotted_match_machine.proofs.names.Names.are_same.Given as goal

abbrev pub invariant-loop-position : goal.invariant-loop-position
invariant-loop-position l = numbers_eq (names_at l.frames l.self) (names_at l.frames l.other) ≡ numbers_eq (drop l.position (names_at l.frames l.self)) (drop l.position (names_at l.frames l.other))
