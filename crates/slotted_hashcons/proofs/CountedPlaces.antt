-- How many of some places are taken, and how many nodes are filed.
use Rattle.std.proofs.Common.{◌≡◌, ◌+◌, ◌<◌, ◌≤◌, ℕ, zero, suc, List, [], ◌∷◌, ◌++◌, length, map, set, cond, Option, Some, None, refl, ap, sym, arith}
use Rattle.std.specs.Prelude.{is_some, slice_index_or, swap_remove}
use Rattle.std.specs.List.{count_by}
use Rattle.std.proofs.lemmas.List.{length-append}
use Rattle.std.proofs.lemmas.List.Sums.{sum_by-cons, sum_by-swap_remove, sum_by_push}
use Rattle.std.specs.List.{sum_by}
use Rattle.slotted_hashcons.specs.Filed.{Filing, joined, with_names}
use Rattle.slotted_hashcons.specs.FiledRows.{row_at, rows_from, rows_in}

abbrev one_if : {X : Type 0} → Option X → ℕ
one_if o = cond (is_some o) 1 0

abbrev pub taken : {X : Type 0} → List (Option X) → ℕ
taken xs = count_by is_some xs

taken-cons : {X : Type 0} (x : Option X) (xs : List (Option X)) → taken (x ∷ xs) ≡ one_if x + taken xs
taken-cons x xs = sum_by-cons (λ y. one_if y) x xs

-- one place more, which is free
pub taken-added : {X : Type 0} (xs : List (Option X)) → taken (xs ++ None ∷ []) ≡ taken xs
taken-added xs = omega (arith, sum_by_push (λ y. one_if y) xs None)

-- another value at a place
taken-set : {X : Type 0} (xs : List (Option X)) (i : ℕ) (x : Option X) → i < length xs → taken (set xs i x) + one_if (slice_index_or xs i None) ≡ taken xs + one_if x
taken-set [] i x l = absurd (omega arith)
taken-set (y ∷ xs) zero x l = omega (arith, taken-cons x xs, taken-cons y xs)
taken-set (y ∷ xs) (suc i) x l = omega (arith, taken-set xs i x (omega arith), taken-cons y (set xs i x), taken-cons y xs)

-- a free place is taken, a taken one is freed, and a taken one gets another value
pub taken-put : {X : Type 0} (xs : List (Option X)) (i : ℕ) (p : X) → i < length xs → slice_index_or xs i None ≡ None → taken (set xs i (Some p)) ≡ suc (taken xs)
taken-put xs i p l e = omega (arith, taken-set xs i (Some p) l, ap (λ o. one_if o) e)

pub taken-freed : {X : Type 0} (xs : List (Option X)) (i : ℕ) (p : X) → i < length xs → slice_index_or xs i None ≡ Some p → taken (set xs i None) + 1 ≡ taken xs
taken-freed xs i p l e = omega (arith, taken-set xs i None l, ap (λ o. one_if o) e)

pub taken-moved : {X : Type 0} (xs : List (Option X)) (i : ℕ) (p q : X) → i < length xs → slice_index_or xs i None ≡ Some p → taken (set xs i (Some q)) ≡ taken xs
taken-moved xs i p q l e = omega (arith, taken-set xs i (Some q) l, ap (λ o. one_if o) e)

-- one that is swapped out
ones : {X : Type 0} (xs : List X) → sum_by (λ (x : X). 1) xs ≡ length xs
ones [] = refl
ones {X} (x ∷ xs) = omega (arith, sum_by-cons (λ (y : X). 1) x xs, ones xs)

pub length-swapped : {X : Type 0} (xs : List X) (i : ℕ) (d : X) → i < length xs → length (swap_remove xs i d) + 1 ≡ length xs
length-swapped {X} xs i d l = omega (arith, sum_by-swap_remove (λ (x : X). 1) xs i d l, ones xs, ones (swap_remove xs i d))

-- what is at places that are taken
pub taken-mapped : {X Y : Type 0} (f : Option X → Option Y) (xs : List (Option X)) → f None ≡ None →
    ((i : ℕ) (x : X) → slice_index_or xs i None ≡ Some x → (y : Y) × (f (Some x) ≡ Some y)) → taken (map f xs) ≡ taken xs
taken-mapped f [] none some = refl
taken-mapped f (None ∷ xs) none some =
    omega (arith, taken-cons (f None) (map f xs), taken-cons None xs, ap (λ o. one_if o) none, taken-mapped f xs none (λ i. some (suc i)))
taken-mapped f (Some x ∷ xs) none some =
    omega (arith, taken-cons (f (Some x)) (map f xs), taken-cons (Some x) xs, ap (λ o. one_if o) (some 0 x refl).1, taken-mapped f xs none (λ i. some (suc i)))

-- keys are as many with their names as without
pub taken-joined : (ks : List (Option Filing)) (ms : List (List (ℕ × ℕ))) → length ks ≤ length ms → taken (joined ks ms) ≡ taken ks
taken-joined [] ms w = refl
taken-joined (k ∷ ks) [] w = absurd (omega (arith, w))
taken-joined (k ∷ ks) (m ∷ ms) w = omega (arith, taken-cons (with_names m k) (joined ks ms), taken-cons k ks, named k m, taken-joined ks ms (omega (arith, w)))
  where
    named : (o : Option Filing) (n : List (ℕ × ℕ)) → one_if (with_names n o) ≡ one_if o
    named None n = refl
    named (Some x) n = refl

-- there is a row for each class of which something is filed

length-row : (i : ℕ) (x : Option Filing) → length (row_at i x) ≡ one_if x
length-row i None = refl
length-row i (Some e) = refl

length-rows : (i : ℕ) (v : List (Option Filing)) → length (rows_from i v) ≡ taken v
length-rows i [] = refl
length-rows i (x ∷ v) = omega (arith, length-append (rows_from (suc i) v) (row_at i x), length-rows (suc i) v, length-row i x, taken-cons x v)

pub rows-counted : (v : List (Option Filing)) → taken v ≡ length (rows_in v)
rows-counted v = sym (length-rows 0 v)
