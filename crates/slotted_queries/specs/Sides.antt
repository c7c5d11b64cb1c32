-- What rules of queries ask of a match: that a predicate mentions one side of a join, and not the other.
--     lacks c s             the answer to the condition that a slot does not occur
--     no_then o p           no where the first outcome is yes, and else the second
--     asked_outcome c s     the answer, or the variable without a value
--     AskedRefuses c s e    a variable has no value
--     asked_reads c         what is read of the left side of a rule
use Rattle.std.specs.Prelude.{◌≡◌, ◌⊎◌, List, [], ◌∷◌, ◌++◌, true, false, Ok, Err, string_bytes}
use Rattle.std.proofs.Common.{inl, inr}
use Rattle.slotted_slots.specs.declared.error.Error.{Error}
use Rattle.slotted_slots.specs.declared.error.Error.TheVariants.{Failed}
use Rattle.slotted_model_rules.specs.Conditions.{Values}
use Rattle.slotted_model_rules.specs.Matcher.{value_at}
use Rattle.slotted_rules.specs.Asking.{LacksValue, Outcome, lacks-never_failed, slot_outcome}
use Rattle.slotted_rules.specs.Reading.{ReadName, slot_name, variable_name}
use Rattle.slotted_rules.specs.declared.condition.SlotFreeIn.{SlotFreeIn}
use Rattle.slotted_queries.specs.declared.condition.Asked.{Asked}
use Rattle.slotted_queries.specs.declared.condition.Asked.TheVariants.{Nothing, MentionsOnly}

abbrev pub lacks : SlotFreeIn → Values → Outcome
lacks c s = slot_outcome c.slot (string_bytes c.variable) (value_at s (string_bytes c.variable))

abbrev pub no_then : Outcome → Outcome → Outcome
no_then (Ok true) p = Ok false
no_then (Ok false) p = p
no_then (Err v) p = Err v

abbrev pub asked_outcome : Asked → Values → Outcome
asked_outcome Nothing s = Ok true
asked_outcome (MentionsOnly this other) s = no_then (lacks this s) (lacks other s)

-- the second slot is asked only where the first is mentioned
abbrev pub AskedRefuses : Asked → Values → Error → Type 0
AskedRefuses Nothing s e = ⊥
AskedRefuses (MentionsOnly this other) s e = LacksValue (string_bytes this.variable) s e ⊎ ((lacks this s ≡ Ok false) × LacksValue (string_bytes other.variable) s e)

pub asked-never_failed : (c : Asked) (s : Values) → ¬ AskedRefuses c s Failed
asked-never_failed Nothing s r = r
asked-never_failed (MentionsOnly this other) s (inl r) = lacks-never_failed (string_bytes this.variable) s r
asked-never_failed (MentionsOnly this other) s (inr r) = lacks-never_failed (string_bytes other.variable) s r.1

abbrev slot_reads : SlotFreeIn → List ReadName
slot_reads c = variable_name (string_bytes c.variable) ∷ slot_name c.slot ∷ []

abbrev pub asked_reads : Asked → List ReadName
asked_reads Nothing = []
asked_reads (MentionsOnly this other) = slot_reads this ++ slot_reads other
