-- What a refusal stands for.
use Rattle.std.specs.Prelude.{Result, Ok, Err}
use Rattle.slotted_slots.specs.declared.error.Error.{Error}
use Rattle.slotted_slots.specs.declared.error.Error.TheVariants.{OutOfMemory, OutOfSlots, Failed, Parse, NotATerm, SubstInSearch, MissingVariable, NotEqual, BadStep, UnknownClass, NumberTooLarge}
use Rattle.slotted_patterns.specs.Outcome.{Outcome, parsed, Refuses, Answers}

-- a refusal that stands for an outcome of one kind stands for one of a wider kind
pub Refuses-weaker : {Value NoTerm : Type 0} (P Q : Outcome Value NoTerm → Type 0) (e : Error) → Refuses P e → ((o : Outcome Value NoTerm) → P o → Q o) → Refuses Q e
Refuses-weaker P Q (Parse p) h f = f _ h
Refuses-weaker P Q NotATerm h f = (h.0, f _ h.1)
Refuses-weaker P Q NumberTooLarge h f = f _ h
Refuses-weaker P Q OutOfSlots h f = f _ h
Refuses-weaker P Q OutOfMemory h f = tt
Refuses-weaker P Q Failed h f = h
Refuses-weaker P Q SubstInSearch h f = h
Refuses-weaker P Q (MissingVariable v) h f = h
Refuses-weaker P Q NotEqual h f = h
Refuses-weaker P Q BadStep h f = h
Refuses-weaker P Q UnknownClass h f = h

-- the same for an answer
pub Answers-weaker : {A Value NoTerm : Type 0} (seen : A → Value) (P Q : Outcome Value NoTerm → Type 0) (r : Result A Error) → Answers seen P r → ((o : Outcome Value NoTerm) → P o → Q o) → Answers seen Q r
Answers-weaker seen P Q (Ok x) h f = f (parsed (seen x)) h
Answers-weaker seen P Q (Err e) h f = Refuses-weaker P Q e h f
