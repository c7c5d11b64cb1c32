-- What is left once a graph has failed where a call that decides was refused.
use Rattle.std.proofs.Common.{◌≡◌, ◌∙◌, true, false, Result, Ok, Err, arith, IfErr, IfOk, IsErrOf, OnOk, ap, sym, subst, inl, inr, refl}
use Rattle.std.specs.Prelude.{◌⊎◌, ◌↔◌, Bool, IsErr, IsOk, IsTrue}
use Rattle.std.proofs.lemmas.Bool.{false≢true}
use Rattle.slotted_slots.specs.declared.error.Error.{Error}
use Rattle.slotted_slots.specs.declared.error.Error.TheVariants.{Failed}
use Rattle.slotted_slots.specs.Error.{number_of}
use Rattle.slotted_operations.specs.Graph.{Graph}
use Rattle.slotted_deciding.specs.Steps.{CanRefuse, GoesTo}

-- no refusal is one of a failed graph
pub never-failed : ¬ CanRefuse Failed
never-failed (inl s) = absurd (omega (arith, ap number_of s))
never-failed (inr (inl s)) = absurd (omega (arith, ap number_of s))
never-failed (inr (inr (inl s))) = absurd (omega (arith, ap number_of s))
never-failed (inr (inr (inr s))) = absurd (omega (arith, ap number_of s))

-- what holds unless a graph has failed holds of one that has not
pub so-well : {P : Type 0} (b : Bool) → ¬ IsTrue b → IsTrue b ⊎ P → P
so-well b well (inl failed) = absurd (well failed)
so-well b well (inr p) = p

module _ {A : Type 0} (g k h : Graph) (o r : Result A Error) (same : r ≡ o) (refused : IsErr o → h ≡ record k { failed = true }) (done : IsOk o → h ≡ k) where
  -- what was answered of the graph is so of the one that is left
  pub left-ok : (P : A → Graph → Type 0) → IfOk o (λ x. P x k) → IfOk r (λ x. P x h)
  left-ok P holds = subst (λ (t : Result A Error). IfOk t (λ x. P x h)) (sym same) (by o done holds)
    where
      by : (o : Result A Error) → (IsOk o → h ≡ k) → IfOk o (λ x. P x k) → IfOk o (λ x. P x h)
      by (Ok x) done p = subst (P x) (sym (done refl)) p
      by (Err e) done p = tt

  -- so is what holds of the graph itself
  pub left-holds : (P : Graph → Type 0) → OnOk o (P k) → IsTrue h.failed ⊎ P h
  left-holds P holds = by o refused done holds
    where
      by : (o : Result A Error) → (IsErr o → h ≡ record k { failed = true }) → (IsOk o → h ≡ k) → OnOk o (P k) → IsTrue h.failed ⊎ P h
      by (Ok x) refused done p = inr (subst P (sym (done refl)) p)
      by (Err e) refused done p = inl (ap (λ (x : Graph). x.failed) (refused refl))

  pub left-goes : OnOk o (GoesTo g k) → IsTrue h.failed ⊎ GoesTo g h
  left-goes goes = left-holds (GoesTo g) goes

  -- the graph that is left has failed exactly where the call was refused
  pub left-fails : OnOk o (GoesTo g k) → IsTrue h.failed ↔ IsErr r
  left-fails goes = subst (λ (t : Result A Error). IsTrue h.failed ↔ IsErr t) (sym same) (by o refused done goes)
    where
      by : (o : Result A Error) → (IsErr o → h ≡ record k { failed = true }) → (IsOk o → h ≡ k) → OnOk o (GoesTo g k) → IsTrue h.failed ↔ IsErr o
      by (Ok x) refused done p = (λ f. absurd (false≢true (sym (ap (λ (x : Graph). x.failed) (done refl) ∙ p.graph.well) ∙ f)), λ no. absurd (false≢true no))
      by (Err e) refused done p = (λ f. refl, λ _. ap (λ (x : Graph). x.failed) (refused refl))

  pub left-failed : g.failed ≡ false → IfErr o CanRefuse → IsErrOf r Failed ↔ IsTrue g.failed
  left-failed well err = (λ is. absurd (none o (sym same ∙ is) err), λ f. absurd (false≢true (sym well ∙ f)))
    where
      none : (o : Result A Error) → o ≡ Err Failed → IfErr o CanRefuse → ⊥
      none o is err = never-failed (subst (λ (t : Result A Error). IfErr t CanRefuse) is err)

  pub left-only : IfErr o CanRefuse → IfErr r (λ e. (e ≡ Failed) ⊎ CanRefuse e)
  left-only err = subst (λ (t : Result A Error). IfErr t (λ e. (e ≡ Failed) ⊎ CanRefuse e)) (sym same) (by o err)
    where
      by : (o : Result A Error) → IfErr o CanRefuse → IfErr o (λ e. (e ≡ Failed) ⊎ CanRefuse e)
      by (Ok x) p = tt
      by (Err e) p = inr p
