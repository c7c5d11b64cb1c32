-- What stands at a place of a list, as the list grows and shrinks.
use Rattle.std.proofs.Common.{◌≡◌, ℕ, zero, suc, ◌<◌, ◌-◌, List, [], ◌∷◌, ◌++◌, length, Some, None, Ok, Err, Result, OnErr, sym, ◌∙◌, ap, refl, subst, inl, inr, arith}
use Rattle.std.specs.Prelude.{◌⊎◌, ◌≢◌, slice_get, slice_index_or, set, take, swap_remove}
use Rattle.std.proofs.lemmas.Bool.{cases_eq}
use Rattle.std.proofs.lemmas.Option.{slice_get-get_or, get_or_from_slice_get}

-- what holds does so after a refusal
pub on_err : {T E : Type 0} (r : Result T E) {P : Type 0} → P → OnErr r P
on_err (Ok x) p = tt
on_err (Err e) p = p

-- two lists with the same at each place
pub same-places : {X : Type 0} (xs ys : List X) (d : X) → length xs ≡ length ys → ((k : ℕ) → slice_index_or xs k d ≡ slice_index_or ys k d) → xs ≡ ys
same-places [] [] d e h = refl
same-places [] (y ∷ ys) d e h = absurd (omega (arith, e))
same-places (x ∷ xs) [] d e h = absurd (omega (arith, e))
same-places (x ∷ xs) (y ∷ ys) d e h = λ i. h zero i ∷ same-places xs ys d (omega (arith, e)) (λ k. h (suc k)) i

-- what was read at a place, whatever stands for places past the end
pub read-any : {X : Type 0} (xs : List X) (i : ℕ) (x d : X) → i < length xs → x ≡ slice_index_or xs i x → slice_index_or xs i d ≡ x
read-any [] i x d w e = absurd (omega (arith, w))
read-any (y ∷ xs) zero x d w e = sym e
read-any (y ∷ xs) (suc i) x d w e = read-any xs i x d (omega (arith, w)) e

pub at-append_cases : {X : Type 0} (xs : List X) (y : X) (p : ℕ) (x : X) → slice_get (xs ++ y ∷ []) p ≡ Some x → (slice_get xs p ≡ Some x) ⊎ ((p ≡ length xs) × (x ≡ y))
at-append_cases [] y zero x e = inr (refl, cc)
at-append_cases [] y (suc p) x e = cc
at-append_cases (z ∷ xs) y zero x e = inl e
at-append_cases (z ∷ xs) y (suc p) x e = elim (at-append_cases xs y p x e) [
  | inl h ↦ inl h
  | inr h ↦ inr (ap suc h.0, h.1)
]

-- a place that is written
pub at-set_same : {X : Type 0} (xs : List X) (i : ℕ) (y : X) → i < length xs → slice_get (set xs i y) i ≡ Some y
at-set_same [] i y w = absurd (omega (arith, w))
at-set_same (x ∷ xs) zero y w = refl
at-set_same (x ∷ xs) (suc i) y w = at-set_same xs i y (omega (arith, w))

pub at-set_other : {X : Type 0} (xs : List X) (i j : ℕ) (y : X) → j ≢ i → slice_get (set xs i y) j ≡ slice_get xs j
at-set_other [] i j y n = refl
at-set_other (x ∷ xs) zero zero y n = absurd (n refl)
at-set_other (x ∷ xs) zero (suc j) y n = refl
at-set_other (x ∷ xs) (suc i) zero y n = refl
at-set_other (x ∷ xs) (suc i) (suc j) y n = at-set_other xs i j y (λ e. n (ap suc e))

-- the first places
pub at-take : {X : Type 0} (n : ℕ) (xs : List X) (p : ℕ) → p < n → slice_get (take n xs) p ≡ slice_get xs p
at-take zero xs p w = absurd (omega (arith, w))
at-take (suc n) [] p w = refl
at-take (suc n) (x ∷ xs) zero w = refl
at-take (suc n) (x ∷ xs) (suc p) w = at-take n xs p (omega (arith, w))

pub at-take_within : {X : Type 0} (n : ℕ) (xs : List X) (p : ℕ) (x : X) → slice_get (take n xs) p ≡ Some x → p < n
at-take_within zero xs p x e = cc
at-take_within (suc n) [] p x e = cc
at-take_within (suc n) (y ∷ xs) zero x e = omega arith
at-take_within (suc n) (y ∷ xs) (suc p) x e = let w = at-take_within n xs p x e in omega (arith, w)

-- the last one moves into a place
module _ {X : Type 0} (xs : List X) (i : ℕ) (d : X) where
  abbrev last : X
  last = slice_index_or xs (length xs - 1) d

  pub swapped-other : (p : ℕ) (x : X) → p < length xs - 1 → p ≢ i → slice_get xs p ≡ Some x → slice_get (swap_remove xs i d) p ≡ Some x
  swapped-other p x w n e = at-take (length xs - 1) (set xs i last) p w ∙ at-set_other xs i p last n ∙ e

  pub swapped-same : (x : X) → i < length xs - 1 → slice_get xs (length xs - 1) ≡ Some x → slice_get (swap_remove xs i d) i ≡ Some x
  swapped-same x w e =
      at-take (length xs - 1) (set xs i last) i w ∙ at-set_same xs i last (omega (arith, w)) ∙ ap Some (get_or_from_slice_get xs (length xs - 1) x d e)

  pub swapped-cases : (p : ℕ) (x : X) → i < length xs → slice_get (swap_remove xs i d) p ≡ Some x →
      (p < length xs - 1) × (((p ≢ i) × (slice_get xs p ≡ Some x)) ⊎ ((p ≡ i) × (slice_get xs (length xs - 1) ≡ Some x)))
  swapped-cases p x within e = (
    w,
    elim (cases_eq p i) [
      | inl k ↦ inr (k, slice_get-get_or xs (length xs - 1) d (omega (arith, within)) ∙ sym (subst (λ q. slice_get (set xs i last) q ≡ Some last) (sym k) (at-set_same xs i last within)) ∙ seen)
      | inr n ↦ inl (n, sym (at-set_other xs i p last n) ∙ seen)
    ],
  )
    where
      w : p < length xs - 1
      w = at-take_within (length xs - 1) (set xs i last) p x e

      seen : slice_get (set xs i last) p ≡ Some x
      seen = sym (at-take (length xs - 1) (set xs i last) p w) ∙ e

  -- nothing stands where the last one would have moved: so it was the last one
  pub swapped-none : i < length xs → slice_get (swap_remove xs i d) i ≡ None → i ≡ length xs - 1
  swapped-none within e =
      let moves : ¬ (i < length xs - 1) = λ w. let at = swapped-same last w (slice_get-get_or xs (length xs - 1) d (omega (arith, within))) in let gone = e in cc in
      omega (arith, within, moves)
