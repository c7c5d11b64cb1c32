-- A node over its child patterns as a term, and refusals.
use Rattle.std.proofs.Common.{◌≡◌, refl, true, false, Bool}
use Rattle.std.specs.Prelude.{Option, Some, None, if◌then◌else◌}
use Rattle.slotted_theory.specs.Term.{Term}
use Rattle.slotted_slots.specs.declared.error.Error.{Error}
use Rattle.slotted_slots.specs.declared.error.Error.TheVariants.{OutOfMemory, OutOfSlots, Failed, Parse, NotATerm, SubstInSearch, MissingVariable, NotEqual, BadStep, UnknownClass, NumberTooLarge}
use Rattle.slotted_terms.specs.AsTerm.{IsRefusal}

pub counted : (b : Bool) (t : Term) → b ≡ true → (if b then Some t else None) ≡ Some t
counted true t h = refl
counted false t h = absurd (cc)

pub miscounted : (b : Bool) (t : Term) → b ≡ false → (if b then Some t else None) ≡ None
miscounted true t h = absurd (cc)
miscounted false t h = refl

-- what refuses a part refuses the whole
pub IsRefusal-whole : (o p : Option Term) (e : Error) → IsRefusal o e → (o ≡ None → p ≡ None) → IsRefusal p e
IsRefusal-whole o p NotATerm h f = f h
IsRefusal-whole o p OutOfMemory h f = tt
IsRefusal-whole o p (Parse q) h f = h
IsRefusal-whole o p NumberTooLarge h f = h
IsRefusal-whole o p OutOfSlots h f = h
IsRefusal-whole o p Failed h f = h
IsRefusal-whole o p SubstInSearch h f = h
IsRefusal-whole o p (MissingVariable v) h f = h
IsRefusal-whole o p NotEqual h f = h
IsRefusal-whole o p BadStep h f = h
IsRefusal-whole o p UnknownClass h f = h
