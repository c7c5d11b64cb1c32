-- A map that is built again from what it has at its keys, one after another.
use Rattle.std.proofs.Common.{◌≡◌, ◌≢◌, ◌<◌, ◌≤◌, ℕ, zero, suc, ◌+◌, List, [], ◌∷◌, Some, None, length, take, sym, ◌∙◌, ap, refl, arith}
use Rattle.std.specs.Prelude.{slice_get}
use Rattle.std.proofs.lemmas.Bool.{eq-eqb, ne_eqb}
use Rattle.slotted_lists.proofs.Options.{Some-same}
use Rattle.slotted_slots.specs.Maps.{value_of, with_pair}
use Rattle.slotted_slots.proofs.MapLemmas.{with_pair-after}
use Rattle.slotted_model.specs.Applied.{keys}
use Rattle.slotted_model.specs.Ascending.{IsAscending, IsBelowAll}
use Rattle.slotted_model.proofs.Data.Options.{None-Some}

below-at : (x : ℕ) (ys : List ℕ) (i t : ℕ) → IsBelowAll x ys → slice_get ys i ≡ Some t → x < t
below-at x [] i t b e = absurd (None-Some t e)
below-at x (y ∷ ys) zero t b e = let s : y ≡ t = Some-same y t e in omega (arith, b.0, s)
below-at x (y ∷ ys) (suc i) t b e = below-at x ys i t b.1 e

value-first : (p : ℕ × ℕ) (m : List (ℕ × ℕ)) (t : ℕ) → p.0 ≡ t → value_of (p ∷ m) t ≡ Some p.1
value-first p m t e = rw (eq-eqb p.0 t e) refl

value-later : (p : ℕ × ℕ) (m : List (ℕ × ℕ)) (t : ℕ) → p.0 ≢ t → value_of (p ∷ m) t ≡ value_of m t
value-later p m t n = rw (ne_eqb p.0 t n) refl

-- the next key is put in with its value
next-pair : (m : List (ℕ × ℕ)) (i t v : ℕ) → IsAscending (keys m) → slice_get (keys m) i ≡ Some t → value_of m t ≡ Some v → with_pair (take i m) t v ≡ take (suc i) m
next-pair [] i t v a e f = absurd (None-Some t e)
next-pair (p ∷ m) zero t v a e f =
    let s : p.0 ≡ t = Some-same p.0 t e in
    let w : p.1 ≡ v = Some-same p.1 v (sym (value-first p m t s) ∙ f) in
    λ j. (sym s j, sym w j) ∷ []
next-pair (p ∷ m) (suc i) t v a e f =
    let l : p.0 < t = below-at p.0 (keys m) i t a.0 e in
    with_pair-after p (take i m) t v l ∙ ap (λ r. p ∷ r) (next-pair m i t v a.1 e (sym (value-later p m t (λ s. omega (arith, l, s))) ∙ f))

pub next-found : (m n : List (ℕ × ℕ)) (i t v : ℕ) → IsAscending (keys m) → slice_get (keys m) i ≡ Some t → value_of m t ≡ Some v → n ≡ take i m → with_pair n t v ≡ take (i + 1) m
next-found m n i t v a e f is =
    let one : suc i ≡ i + 1 = omega arith in
    ap (λ r. with_pair r t v) is ∙ (next-pair m i t v a e f ∙ ap (λ j. take j m) one)

-- each key has a value
pub key-found : (m : List (ℕ × ℕ)) (i t : ℕ) → IsAscending (keys m) → slice_get (keys m) i ≡ Some t → value_of m t ≢ None
key-found [] i t a e f = absurd (None-Some t e)
key-found (p ∷ m) zero t a e f = None-Some p.1 (sym f ∙ value-first p m t (Some-same p.0 t e))
key-found (p ∷ m) (suc i) t a e f =
    let l : p.0 < t = below-at p.0 (keys m) i t a.0 e in
    key-found m i t a.1 e (sym (value-later p m t (λ s. omega (arith, l, s))) ∙ f)

pub all-found : {X : Type 0} (m : List X) (i : ℕ) → length m ≤ i → take i m ≡ m
all-found [] zero l = refl
all-found [] (suc i) l = refl
all-found (p ∷ m) zero l = absurd (omega (arith, l))
all-found (p ∷ m) (suc i) l = ap (λ r. p ∷ r) (all-found m i (omega (arith, l)))
