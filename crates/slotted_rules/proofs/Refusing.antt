-- What is left where an instance is refused, and what was tested where it is not.
use Rattle.std.proofs.Common.{◌≡◌, ◌∙◌, ap, refl, sym, subst, inl, inr}
use Rattle.std.specs.Prelude.{◌⊎◌, true, ℕ, List, IsTrue, IsSome, IfOk, IfErr, IsErrAnd, IsErrOf, OnOk, Option, Some, None, Result, Ok, Err, String}
use Rattle.std.specs.declared.alloc.Global.{Global}
use Rattle.slotted_slots.specs.Error.{IsShortage}
use Rattle.slotted_slots.specs.declared.error.Error.{Error}
use Rattle.slotted_slots.specs.declared.error.Error.TheVariants.{MissingVariable, NotATerm, OutOfMemory, OutOfSlots}
use Rattle.slotted_patterns.specs.Tree.{PatternTree}
use Rattle.slotted_graph.specs.Graph.{Graph}
use Rattle.slotted_graph.specs.Extension.{ExtendsTo}
use Rattle.slotted_graph.proofs.Extending.{extends-itself}
use Rattle.slotted_model_rules.specs.Conditions.{Values}
use Rattle.slotted_rule_patterns.specs.PatternCode.{pattern_in}
use Rattle.slotted_rule_patterns.specs.Variables.{first_missing, has_value}
use Rattle.slotted_rule_patterns.proofs.KnownVariables.{none_outside-known}
use Rattle.slotted_rules.specs.Instances.{HasValues}
use Rattle.slotted_rules.specs.Refusals.{AreMissing, IsMissing, HavePassed, PassesTests, RefusesMissing, RefusesTerm}

pub missing-long : (s : Values) (q : PatternTree) (e : Error) → IsMissing s q e → ¬ IsShortage e
missing-long s q e m (inl o) = absurd (told (sym m.1 ∙ o))
  where
    told : MissingVariable m.0 ≡ OutOfMemory → ⊥
    told p = absurd (cc)
missing-long s q e m (inr o) = absurd (told (sym m.1 ∙ o))
  where
    told : MissingVariable m.0 ≡ OutOfSlots → ⊥
    told p = absurd (cc)

-- i is what was built of g, and h what is left of i
pub left-extends : {A : Type 0} (g i h : Graph) (M : Error → Type 0) → ((e : Error) → M e → ¬ IsShortage e) → (r : Result A Error) (P : A → Type 0) → ((a : A) → P a → ExtendsTo g i) → IfOk r P → IfErr r (λ e. IsShortage e ⊎ (M e × (i ≡ g))) →
    (IsErrAnd r IsShortage → h ≡ record i { failed = true }) → ((IsErrAnd r IsShortage → ⊥) → h ≡ i) → IsTrue h.failed ⊎ ExtendsTo g h
left-extends g i h M long (Ok a) P to ok err fails stays = inr (subst (ExtendsTo g) (sym (stays (λ x. x))) (to a ok))
left-extends g i h M long (Err e) P to ok (inl short) fails stays = inl (ap (λ (x : Graph). x.failed) (fails short))
left-extends g i h M long (Err e) P to ok (inr m) fails stays =
    inr (subst (ExtendsTo g) (sym (stays (long e m.0) ∙ m.1)) (extends-itself g))

pub both-long : (s : Values) (p q : PatternTree) (e : Error) → AreMissing s p q e → ¬ IsShortage e
both-long s p q e (inl m) = missing-long s p e m
both-long s p q e (inr m) = missing-long s q e m.1

pub tests-passed : {A E : Type 0} (s : Values) (q : PatternTree) (r : Result A E) → IsSome (pattern_in q) → OnOk r (HasValues s q) → OnOk r (PassesTests s q)
tests-passed s q (Ok a) whole given = (whole, none_outside-known (has_value s) q given)
tests-passed s q (Err e) whole given = tt

pub both-passed : {A E : Type 0} (s : Values) (p q : PatternTree) (r : Result A E) → IsSome (pattern_in p) → IsSome (pattern_in q) → OnOk r (HasValues s p) → OnOk r (HasValues s q) → OnOk r (HavePassed s p q)
both-passed s p q (Ok a) left right first second = ((left, none_outside-known (has_value s) p first), (right, none_outside-known (has_value s) q second))
both-passed s p q (Err e) left right first second = tt

no_memory : ¬ (NotATerm ≡ OutOfMemory)
no_memory p = absurd (cc)

no_slots : ¬ (NotATerm ≡ OutOfSlots)
no_slots p = absurd (cc)

no_variable : (v : String Global) → ¬ (NotATerm ≡ MissingVariable v)
no_variable v p = absurd (cc)

-- once the tests are passed, the method alone refuses as if there was no term
pub term-refused : {A : Type 0} (refuses : Error → Type 0) (s : Values) (q : PatternTree) (r : Result A Error) → IsSome (pattern_in q) → (IsSome (first_missing q s) → RefusesMissing s q r) →
    IfErr r (λ e. IsShortage e ⊎ (IsMissing s q e ⊎ refuses e)) → IsErrOf r NotATerm → RefusesTerm refuses s q
term-refused {A} refuses s q r whole missing only is = given (first_missing q s) refl
  where
    by : IsShortage NotATerm ⊎ (IsMissing s q NotATerm ⊎ refuses NotATerm) → refuses NotATerm
    by (inl (inl m)) = absurd (no_memory m)
    by (inl (inr m)) = absurd (no_slots m)
    by (inr (inl m)) = absurd (no_variable m.0 m.1)
    by (inr (inr k)) = k

    never : RefusesMissing {T = A} s q (Err NotATerm) → ⊥
    never (inl m) = no_memory m
    never (inr m) = no_variable m.0 m.1

    given : (o : Option (List ℕ)) → first_missing q s ≡ o → RefusesTerm refuses s q
    given None none = inr ((whole, none), by (subst (λ (t : Result A Error). IfErr t (λ e. IsShortage e ⊎ (IsMissing s q e ⊎ refuses e))) is only))
    given (Some v) some = absurd (never (subst (λ (t : Result A Error). RefusesMissing s q t) is (missing (subst IsSome (sym some) refl))))

-- a refusal of a missing variable leaves the graph as it was, or failed
pub missing-left : {A : Type 0} (s : Values) (q : PatternTree) (g i h : Graph) (r t : Result A Error) → t ≡ r → IsTrue h.failed ⊎ (h ≡ i) → RefusesMissing s q r × (i ≡ g) → RefusesMissing s q t × (IsTrue h.failed ⊎ (h ≡ g))
missing-left {A} s q g i h r t same left refused = (
  subst (λ (x : Result A Error). RefusesMissing s q x) (sym same) refused.0,
  elim left [
    | inl failed ↦ inl failed
    | inr kept ↦ inr (kept ∙ refused.1)
  ],
)
