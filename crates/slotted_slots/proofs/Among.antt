-- A number is among others by a test, and by its place.
use Rattle.std.proofs.Common.{◌≡◌, ◌<◌, ℕ, zero, suc, List, [], ◌∷◌, length, refl, ap, sym, arith, get_or}
use Rattle.std.specs.Prelude.{Bool, true, false, ◌||◌, ◌==◌, Contains}
use Rattle.std.proofs.lemmas.Bool.{eq-eqb, eqb-true}
use Rattle.std.proofs.lemmas.Map.Views.{Contains-from_any}
use Rattle.slotted_slots.specs.Maps.{is_among}

pub among-contains : (v : ℕ) (xs : List ℕ) → is_among v xs ≡ true → Contains xs v
among-contains v xs h = Contains-from_any {eq = λ q x. x == q} (λ x y e. sym (eqb-true y x e)) v xs h

or-right : (b c : Bool) → c ≡ true → (b || c) ≡ true
or-right true c h = refl
or-right false c h = h

among-at : (v : ℕ) (xs : List ℕ) (k : ℕ) → k < length xs → get_or xs k v ≡ v → is_among v xs ≡ true
among-at v [] k l e = absurd (omega (arith, l))
among-at v (x ∷ xs) zero l e = ap (λ b. b || is_among v xs) (eq-eqb x v e)
among-at v (x ∷ xs) (suc k) l e = or-right (x == v) (is_among v xs) (among-at v xs k (omega (arith, l)) e)

pub contains-among : (v : ℕ) (xs : List ℕ) → Contains xs v → is_among v xs ≡ true
contains-among v xs c = among-at v xs c.0 c.1 c.2
