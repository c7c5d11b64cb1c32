-- Options: their values, and what is mapped.
use Rattle.std.proofs.Common.{◌≡◌, ℕ, Option, Some, None, refl, ap, sym, inl, inr}
use Rattle.std.specs.Prelude.{Bool, true, false, cond, is_some, option_map, unwrap_or, ◌⊎◌}

pub Some-same : {A : Type 0} (x y : A) → Some x ≡ Some y → x ≡ y
Some-same x y p = ap (λ o. unwrap_or o y) p

-- the one or the other, for a name or none
pub some-or_none : (o : Option ℕ) → ((z : ℕ) × (o ≡ Some z)) ⊎ (o ≡ None)
some-or_none None = inr refl
some-or_none (Some z) = inl (z, refl)

pub is_some-option_map : {A B : Type 0} (f : A → B) (o : Option A) → is_some (option_map f o) ≡ is_some o
is_some-option_map f None = refl
is_some-option_map f (Some x) = refl

-- two optional numbers with the same value are the same
pub same_options : (o p : Option ℕ) → ((t : ℕ) → o ≡ Some t → p ≡ Some t) → ((t : ℕ) → p ≡ Some t → o ≡ Some t) → o ≡ p
same_options None None f g = refl
same_options None (Some t) f g = g t refl
same_options (Some t) p f g = sym (f t refl)

-- the maps of applied ids with other names
pub cond-option_map : (f : ℕ → ℕ) (b : Bool) (x : ℕ) (o : Option ℕ) → cond b (Some (f x)) (option_map f o) ≡ option_map f (cond b (Some x) o)
cond-option_map f true x o = refl
cond-option_map f false x o = refl
