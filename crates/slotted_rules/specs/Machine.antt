-- What the machine's clock tells.
--     last_told k           what it told last, and 0 where it told nothing
--     TellsLater k time l   it tells a time that is not before the last one, which is the last one then
use Rattle.std.specs.Prelude.{◌≡◌, ◌≤◌, ℕ}
use Rattle.slotted_rules.specs.declared.machine.MachineClock.{MachineClock}

abbrev pub last_told : {R : Type 0} → MachineClock R → ℕ
last_told k = k.last

abbrev pub TellsLater : {R : Type 0} → MachineClock R → ℕ → MachineClock R → Type 0
TellsLater k time l = (last_told k ≤ time) × (last_told l ≡ time)
