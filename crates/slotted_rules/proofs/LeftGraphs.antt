-- What is left once a graph has failed if memory or slots ran out.
use Rattle.std.proofs.Common.{◌≡◌, ◌∙◌, ◌≤◌, true, false, arith, Result, Ok, Err, IfErr, IfOk, IsErrOf, ap, sym, subst, inl, inr, refl}
use Rattle.std.specs.Prelude.{◌⊎◌, ◌↔◌, IsErrAnd, IsTrue}
use Rattle.std.proofs.lemmas.Bool.{false≢true}
use Rattle.slotted_slots.specs.Error.{IsShortage, number_of}
use Rattle.slotted_slots.specs.declared.error.Error.{Error}
use Rattle.slotted_slots.specs.declared.error.Error.TheVariants.{OutOfMemory, OutOfSlots, Failed, Parse, NotATerm, SubstInSearch, MissingVariable, NotEqual, BadStep, UnknownClass, NumberTooLarge}
use Rattle.slotted_operations.specs.Graph.{Graph}

numbered : (e : Error) → IsShortage e → (number_of e ≡ 1) ⊎ (number_of e ≡ 2)
numbered e (inl m) = inl (ap number_of m)
numbered e (inr m) = inr (ap number_of m)

far : (e : Error) → 3 ≤ number_of e → ¬ IsShortage e
far e l s = elim (numbered e s) [
  | inl m ↦ omega (arith, l, m)
  | inr m ↦ omega (arith, l, m)
]

-- a refusal is a shortage, or it is none
short_or : (e : Error) → IsShortage e ⊎ (¬ IsShortage e)
short_or OutOfMemory = inl (inl refl)
short_or OutOfSlots = inl (inr refl)
short_or Failed = inr (far Failed (omega arith))
short_or (Parse x) = inr (far (Parse x) (omega arith))
short_or NotATerm = inr (far NotATerm (omega arith))
short_or SubstInSearch = inr (far SubstInSearch (omega arith))
short_or (MissingVariable v) = inr (far (MissingVariable v) (omega arith))
short_or NotEqual = inr (far NotEqual (omega arith))
short_or BadStep = inr (far BadStep (omega arith))
short_or UnknownClass = inr (far UnknownClass (omega arith))
short_or NumberTooLarge = inr (far NumberTooLarge (omega arith))

-- what holds of the graph h holds of the one that is left, or that one has failed
pub left-so : {A : Type 0} (P : Graph → Type 0) (h i : Graph) (r : Result A Error) → IsTrue h.failed ⊎ P h → (IsErrAnd r IsShortage → i ≡ record h { failed = true }) → (¬ IsErrAnd r IsShortage → i ≡ h) → IsTrue i.failed ⊎ P i
left-so {A} P h i r holds short other = by r short other
  where
    kept : i ≡ h → IsTrue i.failed ⊎ P i
    kept same = subst (λ (x : Graph). IsTrue x.failed ⊎ P x) (sym same) holds

    by : (r : Result A Error) → (IsErrAnd r IsShortage → i ≡ record h { failed = true }) → (¬ IsErrAnd r IsShortage → i ≡ h) → IsTrue i.failed ⊎ P i
    by (Ok a) short other = kept (other (λ s. s))
    by (Err e) short other = elim (short_or e) [
      | inl s ↦ inl (ap (λ (x : Graph). x.failed) (short s))
      | inr n ↦ kept (other n)
    ]

module _ {A : Type 0} (g h i : Graph) (r s : Result A Error) (same : s ≡ r) (short : IsErrAnd r IsShortage → i ≡ record h { failed = true }) (other : ¬ IsErrAnd r IsShortage → i ≡ h) where
  -- an answer is what it was
  pub left-ok : (P : A → Graph → Type 0) → IfOk r (λ x. P x h) → IfOk s (λ x. P x i)
  left-ok P holds = subst (λ (t : Result A Error). IfOk t (λ x. P x i)) (sym same) (by r other holds)
    where
      by : (r : Result A Error) → (¬ IsErrAnd r IsShortage → i ≡ h) → IfOk r (λ x. P x h) → IfOk r (λ x. P x i)
      by (Ok x) other p = subst (P x) (sym (other (λ n. n))) p
      by (Err e) other p = tt

  -- a refusal is what it was, or the graph has failed
  pub left-err : (P : Error → Graph → Type 0) → IfErr r (λ e. IsShortage e ⊎ P e h) → IfErr s (λ e. IsTrue i.failed ⊎ P e i)
  left-err P holds = subst (λ (t : Result A Error). IfErr t (λ e. IsTrue i.failed ⊎ P e i)) (sym same) (by r short other holds)
    where
      by : (r : Result A Error) → (IsErrAnd r IsShortage → i ≡ record h { failed = true }) → (¬ IsErrAnd r IsShortage → i ≡ h) → IfErr r (λ e. IsShortage e ⊎ P e h) → IfErr r (λ e. IsTrue i.failed ⊎ P e i)
      by (Ok x) short other holds = tt
      by (Err e) short other (inl s) = inl (ap (λ (x : Graph). x.failed) (short s))
      by (Err e) short other (inr p) = elim (short_or e) [
        | inl s ↦ inl (ap (λ (x : Graph). x.failed) (short s))
        | inr n ↦ inr (subst (P e) (sym (other n)) p)
      ]

  -- no refusal is one of a failed graph
  pub left-failed : (refuses : Error → Type 0) → ¬ refuses Failed → g.failed ≡ false → IfErr r (λ e. IsShortage e ⊎ refuses e) → IsErrOf s Failed ↔ IsTrue g.failed
  left-failed refuses never well err = (λ is. absurd (none r (sym same ∙ is) err), λ failed. absurd (false≢true (sym well ∙ failed)))
    where
      none : (r : Result A Error) → r ≡ Err Failed → IfErr r (λ e. IsShortage e ⊎ refuses e) → ⊥
      none r is err = elim (subst (λ (t : Result A Error). IfErr t (λ e. IsShortage e ⊎ refuses e)) is err) [
        | inl s ↦ far Failed (omega arith) s
        | inr n ↦ never n
      ]

  -- the graph that is left has failed exactly where memory or slots ran out
  pub left-fails : (refuses : Error → Type 0) → ¬ refuses Failed → (IsTrue h.failed → IsErrAnd r IsShortage) → IfErr r (λ e. IsShortage e ⊎ refuses e) → IsTrue i.failed ↔ IsErrAnd s (λ e. (e ≡ Failed) ⊎ IsShortage e)
  left-fails refuses never fails err = subst (λ (t : Result A Error). IsTrue i.failed ↔ IsErrAnd t (λ e. (e ≡ Failed) ⊎ IsShortage e)) (sym same) (by r short other fails err)
    where
      by : (r : Result A Error) → (IsErrAnd r IsShortage → i ≡ record h { failed = true }) → (¬ IsErrAnd r IsShortage → i ≡ h) → (IsTrue h.failed → IsErrAnd r IsShortage) → IfErr r (λ e. IsShortage e ⊎ refuses e) →
          IsTrue i.failed ↔ IsErrAnd r (λ e. (e ≡ Failed) ⊎ IsShortage e)
      by (Ok x) short other fails err = (λ f. fails (sym (ap (λ (y : Graph). y.failed) (other (λ n. n))) ∙ f), λ n. absurd n)
      by (Err e) short other fails err = elim (short_or e) [
        | inl s ↦ (λ f. inr s, λ n. ap (λ (y : Graph). y.failed) (short s))
        | inr n ↦ (
          λ f. absurd (n (fails (sym (ap (λ (y : Graph). y.failed) (other n)) ∙ f))),
          λ m. elim m [
            | inl failed ↦ elim err [
              | inl s ↦ absurd (n s)
              | inr r ↦ absurd (never (subst refuses failed r))
            ]
            | inr s ↦ absurd (n s)
          ],
        )
      ]
