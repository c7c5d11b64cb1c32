-- The numbers of names under a binder.
use Rattle.std.proofs.Common.{◌≡◌, ◌≢◌, ℕ, zero, suc, sym, ◌∙◌, ap, refl, inl, inr}
use Rattle.std.specs.Prelude.{cond}
use Rattle.std.proofs.lemmas.Bool.{eq-eqb, ne_eqb, cases_eq}
use Rattle.std.proofs.Math.Nat.{suc-ne-zero, suc_inj}
use Rattle.slotted_theory.specs.Nameless.{extend, lift}
use Rattle.slotted_theory.specs.Renaming.{IsInjective}

-- the name of the binder, and any other name
pub extend-same : (x : ℕ) (ρ : ℕ → ℕ) (y : ℕ) → y ≡ x → extend x ρ y ≡ 0
extend-same x ρ y e = ap (λ b. cond b 0 (suc (ρ y))) (eq-eqb y x e)

pub extend-other : (x : ℕ) (ρ : ℕ → ℕ) (y : ℕ) → y ≢ x → extend x ρ y ≡ suc (ρ y)
extend-other x ρ y e = ap (λ b. cond b 0 (suc (ρ y))) (ne_eqb y x e)

-- a function under a binder, after the numbering there
pub lift-extend : (f : ℕ → ℕ) (x : ℕ) (ρ : ℕ → ℕ) (y : ℕ) → lift f (extend x ρ y) ≡ extend x (λ z. f (ρ z)) y
lift-extend f x ρ y = elim (cases_eq y x) [
  | inl e ↦ ap (lift f) (extend-same x ρ y e) ∙ sym (extend-same x (λ z. f (ρ z)) y e)
  | inr n ↦ ap (lift f) (extend-other x ρ y n) ∙ sym (extend-other x (λ z. f (ρ z)) y n)
]

-- the numbering under a renamed binder of a renamed name
pub extend-renamed : (π : ℕ → ℕ) → IsInjective π → (x : ℕ) (ρ : ℕ → ℕ) (y : ℕ) → extend (π x) ρ (π y) ≡ extend x (λ z. ρ (π z)) y
extend-renamed π inj x ρ y = elim (cases_eq y x) [
  | inl e ↦ extend-same (π x) ρ (π y) (ap π e) ∙ sym (extend-same x (λ z. ρ (π z)) y e)
  | inr n ↦ extend-other (π x) ρ (π y) (λ e. n (inj y x e)) ∙ sym (extend-other x (λ z. ρ (π z)) y n)
]

-- under a binder an injective numbering stays injective
pub extend-injective : (x : ℕ) (ρ : ℕ → ℕ) → IsInjective ρ → IsInjective (extend x ρ)
extend-injective x ρ inj y z p = elim (cases_eq y x) [
  | inl e ↦ elim (cases_eq z x) [
    | inl f ↦ e ∙ sym f
    | inr m ↦ absurd (suc-ne-zero (ρ z) (sym (extend-other x ρ z m) ∙ (sym p ∙ extend-same x ρ y e)))
  ]
  | inr n ↦ elim (cases_eq z x) [
    | inl f ↦ absurd (suc-ne-zero (ρ y) (sym (extend-other x ρ y n) ∙ (p ∙ extend-same x ρ z f)))
    | inr m ↦ inj y z (suc_inj (sym (extend-other x ρ y n) ∙ (p ∙ extend-other x ρ z m)))
  ]
]

-- two functions under a binder are one, and the identity stays the identity
pub lift-lift : (f g : ℕ → ℕ) (x : ℕ) → lift f (lift g x) ≡ lift (λ z. f (g z)) x
lift-lift f g zero = refl
lift-lift f g (suc x) = refl

pub lift-id : (x : ℕ) → lift (λ z. z) x ≡ x
lift-id zero = refl
lift-id (suc x) = refl

-- under a binder an injective function stays injective
pub lift-injective : (f : ℕ → ℕ) → IsInjective f → IsInjective (lift f)
lift-injective f inj zero zero p = refl
lift-injective f inj zero (suc y) p = absurd (suc-ne-zero (f y) (sym p))
lift-injective f inj (suc x) zero p = absurd (suc-ne-zero (f x) p)
lift-injective f inj (suc x) (suc y) p = ap suc (inj x y (suc_inj p))
