-- The last element is read.
use Rattle.std.proofs.Common.{◌≡◌, ◌-◌, length, Some, sym, subst}
use Rattle.std.specs.Prelude.{slice_get}
use Rattle.slotted_rules.proofs.LastTurns.{last-of}
use Rattle.slotted_rules.proofs.running.last_end.Goals as goal

pub returns-in-Some : goal.returns-in-Some
returns-in-Some g c = last-of c.args.iterations.now.items c.in-Some.iteration.now (subst (λ xs. slice_get xs (length xs - 1) ≡ Some c.in-Some.iteration.now) c.deref.ensures.value (sym c.in-Some.ensures.value))
