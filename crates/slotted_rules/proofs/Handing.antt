-- Refusals that are handed on.
use Rattle.std.proofs.Common.{◌≡◌, ◌∙◌, ◌↔◌, Result, Err, IfErr, IsErrOf, ap, sym, subst}
use Rattle.std.specs.Prelude.{IsErrAnd}
use Rattle.slotted_slots.specs.declared.error.Error.{Error}
use Rattle.slotted_languages.proofs.HandedOn.{error_or, handed_on}

module _ {A B : Type 0} (s : Result A Error) (e : Error) (was : s ≡ Err e) (r : Result B Error) (handed : IsErrAnd r (λ y. y ≡ e)) where
  -- what a refusal of one kind says
  pub handed_of : {P : Type 0} {f : Error} → IsErrOf s f ↔ P → IsErrOf r f ↔ P
  handed_of says = (
    λ is. says.0 (was ∙ ap Err (ap (error_or e) (sym (handed_on r e handed) ∙ is))),
    λ p. handed_on r e handed ∙ ap Err (ap (error_or e) (sym was ∙ says.1 p)),
  )

  pub handed_if : (P : Error → Type 0) → IfErr s P → IfErr r P
  handed_if P p = subst (λ (x : Result B Error). IfErr x P) (sym (handed_on r e handed)) (subst (λ (x : Result A Error). IfErr x P) was p)
