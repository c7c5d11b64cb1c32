-- How a call that makes a slot keeps to what its definition says.
use Rattle.std.specs.Prelude.{◌≡◌, ◌⊎◌, ◌↔◌, ℕ, Result, IfOk, IfErr, OnErr, IsErrOf}
use Rattle.slotted_slots.specs.declared.error.Error.{Error}
use Rattle.slotted_slots.specs.declared.error.Error.TheVariants.{OutOfSlots, NumberTooLarge}
use Rattle.slotted_slots.specs.Error.{IsShortage}
use Rattle.slotted_slots.specs.Table.{Table, NamedOutcome, gives, too_large, no_place}

-- memory or slots ran out, or a number is too large
abbrev pub IsNamingRefusal : Error → Type 0
IsNamingRefusal e = IsShortage e ⊎ (e ≡ NumberTooLarge)

-- a call that took the table from old to new and answered r did what the outcome says, or found no memory
pub record Follows (outcome : NamedOutcome) (old new : Table) (r : Result ℕ Error) : Type 0 where
  pub slot : IfOk r (λ s. outcome ≡ gives s new)
  pub large : IsErrOf r NumberTooLarge ↔ (outcome ≡ too_large)
  pub full : IsErrOf r OutOfSlots ↔ (outcome ≡ no_place)
  pub only : IfErr r IsNamingRefusal
  pub err : OnErr r (new ≡ old)
