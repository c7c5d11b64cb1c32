-- What building an instance may be refused with, beside shortages.
--     IsMissing s q e         a variable of the pattern has no value: the first one
--     RefusesMissing s q r    a call is refused so, or runs out of memory for the name
--     IsFailedOrShort e       the graph had failed, or it ran out
--     IsRefusedBefore e       a test refused the pattern, before anything was added
--     RefusesInstance s q e   why an instance is refused
--     RefusesTerm refuses s q     a pattern is refused as no term: it is not whole, or else the method refuses so
--     PassesTests s q         the pattern is whole, and each of its variables has a value
--     IsEitherNotWhole p q    one of the patterns has a wrong number of child patterns at some node
--     AreMissing s p q e, RefusesInstances s p q e, HavePassed s p q     the same of two patterns
use Rattle.std.specs.Prelude.{◌≡◌, ◌⊎◌, IsErrAnd, IsSome, Result, Some, None, String, string_bytes}
use Rattle.std.specs.declared.alloc.Global.{Global}
use Rattle.slotted_slots.specs.Error.{IsOutOfMemory, IsShortage}
use Rattle.slotted_slots.specs.declared.error.Error.{Error}
use Rattle.slotted_slots.specs.declared.error.Error.TheVariants.{Failed, MissingVariable, NotATerm}
use Rattle.slotted_patterns.specs.Tree.{PatternTree}
use Rattle.slotted_model_rules.specs.Conditions.{Values}
use Rattle.slotted_rule_patterns.specs.PatternCode.{pattern_in}
use Rattle.slotted_rule_patterns.specs.Variables.{first_missing}

abbrev pub IsMissing : Values → PatternTree → Error → Type 0
IsMissing s q e = (v : String Global) × (e ≡ MissingVariable v) × (first_missing q s ≡ Some (string_bytes v))

-- the first variable without a value is refused, or memory for its name
abbrev pub RefusesMissing : {T : Type 0} → Values → PatternTree → Result T Error → Type 0
RefusesMissing s q r = IsErrAnd r (λ e. IsOutOfMemory e ⊎ IsMissing s q e)

abbrev pub IsFailedOrShort : Error → Type 0
IsFailedOrShort e = (e ≡ Failed) ⊎ IsShortage e

-- the pattern has a wrong number of child patterns at some node, or lacks a value: nothing was added
abbrev pub IsRefusedBefore : Error → Type 0
IsRefusedBefore e = (e ≡ NotATerm) ⊎ ((v : String Global) × (e ≡ MissingVariable v))

-- why an instance is refused
abbrev pub RefusesInstance : Values → PatternTree → Error → Type 0
RefusesInstance s q e = IsFailedOrShort e ⊎ ((e ≡ NotATerm) ⊎ (IsSome (pattern_in q) × IsMissing s q e))

-- an instance was built only of a whole pattern with a value for each variable
abbrev pub PassesTests : Values → PatternTree → Type 0
PassesTests s q = IsSome (pattern_in q) × (first_missing q s ≡ None)

-- the method, which is asked after the tests, answers for other refusals of a whole pattern
abbrev pub RefusesTerm : (Error → Type 0) → Values → PatternTree → Type 0
RefusesTerm refuses s q = (pattern_in q ≡ None) ⊎ (PassesTests s q × refuses NotATerm)

-- the same of two patterns: of the second only where the first has all values

abbrev pub AreMissing : Values → PatternTree → PatternTree → Error → Type 0
AreMissing s p q e = IsMissing s p e ⊎ ((first_missing p s ≡ None) × IsMissing s q e)

abbrev pub IsEitherNotWhole : PatternTree → PatternTree → Type 0
IsEitherNotWhole p q = (pattern_in p ≡ None) ⊎ (pattern_in q ≡ None)

abbrev pub RefusesInstances : Values → PatternTree → PatternTree → Error → Type 0
RefusesInstances s p q e = IsFailedOrShort e ⊎ ((e ≡ NotATerm) ⊎ (IsSome (pattern_in p) × IsSome (pattern_in q) × AreMissing s p q e))

abbrev pub HavePassed : Values → PatternTree → PatternTree → Type 0
HavePassed s p q = PassesTests s p × PassesTests s q
