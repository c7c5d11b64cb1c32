-- What a union of the instances of both sides of a rule has passed, and what a refusal of it leaves.
use Rattle.std.proofs.Common.{◌≡◌, refl, inl}
use Rattle.std.specs.Prelude.{◌⊎◌, Option, Some, None, IsErr, IsErrAnd, IsSome, IsTrue, IfErr, OnOk, Result, Ok, Err}
use Rattle.std.proofs.lemmas.Bool.{false≢true}
use Rattle.slotted_slots.specs.Error.{IsShortage}
use Rattle.slotted_slots.specs.declared.error.Error.{Error}
use Rattle.slotted_patterns.specs.Tree.{PatternTree}
use Rattle.slotted_model_rules.specs.Conditions.{Values}
use Rattle.slotted_rule_patterns.specs.PatternCode.{pattern_in}
use Rattle.slotted_rule_patterns.specs.Variables.{first_lacking, first_missing}
use Rattle.slotted_rule_patterns.proofs.KnownVariables.{missing-lacking}
use Rattle.slotted_operations.specs.Graph.{Graph}
use Rattle.slotted_rules.specs.Refusals.{HavePassed}

-- both sides of a rule are whole, its right side lacks no variable of the left, and these have values
pub ok-passed : {A E : Type 0} (s : Values) (p q : PatternTree) (r : Result A E) → IsSome (pattern_in p) → IsSome (pattern_in q) → first_missing p s ≡ None → first_lacking q p ≡ None → OnOk r (HavePassed s p q)
ok-passed s p q (Ok a) whole made given lacks = ((whole, given), (made, missing-lacking q p s lacks given))
ok-passed s p q (Err e) whole made given lacks = tt

-- a refusal for want of memory or slots fails the graph
pub short-fails : {A : Type 0} (r : Result A Error) (g h : Graph) → (IsErrAnd r IsShortage → IsTrue h.failed) → IfErr r IsShortage → IsErr r → IsTrue h.failed ⊎ (h ≡ g)
short-fails (Ok a) g h fails only e = absurd (false≢true e)
short-fails (Err e) g h fails only is = inl (fails only)

-- a pattern that is not whole has no code
pub none-of : {A : Type 0} (o : Option A) → (IsSome o → ⊥) → o ≡ None
none-of (Some a) never = absurd (never refl)
none-of None never = refl
