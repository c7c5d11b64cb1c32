-- What reading a text gives.
use Rattle.std.specs.Prelude.{◌≡◌, Result, Ok, Err}
use Rattle.slotted_slots.specs.Syntax.{Fault, fault_of}
use Rattle.slotted_slots.specs.declared.error.Error.{Error}
use Rattle.slotted_slots.specs.declared.error.Error.TheVariants.{OutOfMemory, OutOfSlots, Failed, Parse, NotATerm, SubstInSearch, MissingVariable, NotEqual, BadStep, UnknownClass, NumberTooLarge}
use Rattle.slotted_patterns.specs.Tree.{PatternTree}

-- a value; the one fault of a text outside the grammar; a text that writes a pattern which is no term, since a variable or a
-- substitution stands in it, where terms are read; a slot number of 2^30 or more; a name for which the table has no place
pub data Outcome (Value NoTerm : Type 0) : Type 0 where
  parsed : (value : Value) → Outcome Value NoTerm
  outside : (fault : Fault) → Outcome Value NoTerm
  not_a_term : (no_term : NoTerm) → Outcome Value NoTerm
  number_too_large : Outcome Value NoTerm
  out_of_slots : Outcome Value NoTerm

-- where patterns are read, each pattern will do
abbrev pub PatternOutcome : Type 0
PatternOutcome = Outcome PatternTree ⊥

-- the outcome is this fault
abbrev pub HasFault : Fault → PatternOutcome → Type 0
HasFault f o = o ≡ outside f

-- a refusal stands for an outcome of which P holds; want of memory stands for none
abbrev pub Refuses : {Value NoTerm : Type 0} → (Outcome Value NoTerm → Type 0) → Error → Type 0
Refuses P (Parse p) = P (outside (fault_of p))
Refuses {Value} {NoTerm} P NotATerm = (no_term : NoTerm) × P (not_a_term no_term)
Refuses P NumberTooLarge = P number_too_large
Refuses P OutOfSlots = P out_of_slots
Refuses P OutOfMemory = Unit {0}
Refuses P Failed = ⊥
Refuses P SubstInSearch = ⊥
Refuses P (MissingVariable v) = ⊥
Refuses P NotEqual = ⊥
Refuses P BadStep = ⊥
Refuses P UnknownClass = ⊥

-- the answer of a call that reads a text stands for an outcome of which P holds, by the value that is seen in it
abbrev pub Answers : {A Value NoTerm : Type 0} → (A → Value) → (Outcome Value NoTerm → Type 0) → Result A Error → Type 0
Answers seen P (Ok x) = P (parsed (seen x))
Answers seen P (Err e) = Refuses P e
