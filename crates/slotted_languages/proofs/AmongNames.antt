-- Whether a name is among others.
use Rattle.std.proofs.Common.{◌≡◌, ◌≢◌, ℕ, zero, suc, ◌+◌, ◌<◌, List, [], ◌∷◌, length, take, Some, sym, ◌∙◌, ap, refl, arith, add-one}
use Rattle.std.specs.Prelude.{slice_get, slice_index_or, Bool, true, false, ◌||◌, nat_eq}
use Rattle.std.proofs.lemmas.Bool.{eq-eqb, ne_eqb}
use Rattle.slotted_slots.specs.Maps.{is_among}

or_true : (b : Bool) → (b || true) ≡ true
or_true true = refl
or_true false = refl

-- what stands at a place is among the list
pub among_at : (xs : List ℕ) (i v : ℕ) → slice_get xs i ≡ Some v → is_among v xs ≡ true
among_at [] i v e = cc
among_at (x ∷ xs) zero v e = let d : x ≡ v = cc in ap (λ b. b || is_among v xs) (eq-eqb x v d)
among_at (x ∷ xs) (suc i) v e = ap (λ b. nat_eq x v || b) (among_at xs i v e) ∙ or_true (nat_eq x v)

-- one more element that is another
pub not_among-more : (xs : List ℕ) (i v w : ℕ) → is_among v (take i xs) ≡ false → slice_get xs i ≡ Some w → w ≢ v → is_among v (take (i + 1) xs) ≡ false
not_among-more xs i v w h e n = rw (add-one i) (go xs i h e)
  where
    go : (xs : List ℕ) (i : ℕ) → is_among v (take i xs) ≡ false → slice_get xs i ≡ Some w → is_among v (take (suc i) xs) ≡ false
    go [] i h e = cc
    go (x ∷ xs) zero h e = let d : x ≡ w = cc in ap (λ b. b || false) (ne_eqb x v (λ q. n (sym d ∙ q)))
    go (x ∷ xs) (suc i) h e = both (nat_eq x v) (is_among v (take i xs)) h (λ g. go xs i g e)
      where
        both : (p q : Bool) → (p || q) ≡ false → (q ≡ false → is_among v (take (suc i) xs) ≡ false) → (p || is_among v (take (suc i) xs)) ≡ false
        both true q h f = cc
        both false q h f = f h

-- what stands at a place, with any default
pub get_at : (xs : List ℕ) (i v d : ℕ) → slice_get xs i ≡ Some v → (i < length xs) × (slice_index_or xs i d ≡ v)
get_at [] i v d e = cc
get_at (x ∷ xs) zero v d e = (omega arith, cc)
get_at (x ∷ xs) (suc i) v d e = let r = get_at xs i v d e in (omega (arith, r.0), r.1)
