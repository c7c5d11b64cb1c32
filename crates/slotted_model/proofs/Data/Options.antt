-- What a value of a chain of options was made from.
use Rattle.std.proofs.Common.{◌≡◌, Option, Some, None, sym, ap, refl}
use Rattle.std.specs.Prelude.{option_map, option_and_then, is_some}
use Rattle.std.proofs.lemmas.Bool.{false≢true}
use Rattle.slotted_lists.proofs.Options.{Some-same}
use Rattle.slotted_model.specs.LookUp.{both}

pub None-Some : {A : Type 0} (y : A) → ◌≡◌ {A = Option A} None (Some y) → ⊥
None-Some {A} y p = false≢true (ap (λ (o : Option A). is_some o) p)

pub option_map-some : {A B : Type 0} (f : A → B) (o : Option A) (y : B) → option_map f o ≡ Some y → (x : A) × (o ≡ Some x) × (f x ≡ y)
option_map-some f None y p = absurd (None-Some y p)
option_map-some f (Some x) y p = (x, refl, Some-same (f x) y p)

pub and_then-some : {A B : Type 0} (f : A → Option B) (o : Option A) (y : B) → option_and_then f o ≡ Some y → (x : A) × (o ≡ Some x) × (f x ≡ Some y)
and_then-some f None y p = absurd (None-Some y p)
and_then-some f (Some x) y p = (x, refl, p)

pub both-some : {A B C : Type 0} (f : A → B → C) (o : Option A) (r : Option B) (z : C) → both f o r ≡ Some z → (x : A) × (y : B) × (o ≡ Some x) × (r ≡ Some y) × (f x y ≡ z)
both-some f None r z p = absurd (None-Some z p)
both-some f (Some x) None z p = absurd (None-Some z p)
both-some f (Some x) (Some y) z p = (x, y, refl, refl, Some-same (f x y) z p)

pub option_map-none : {A B : Type 0} (f : A → B) (o : Option A) → option_map f o ≡ None → o ≡ None
option_map-none f None p = refl
option_map-none f (Some x) p = absurd (None-Some (f x) (sym p))
