-- Lists: what is taken and dropped of them, mapped, filtered and looked up.
use Rattle.std.proofs.Common.{◌≡◌, ◌+◌, ◌<◌, ◌≤◌, ℕ, zero, suc, List, [], ◌∷◌, ◌++◌, length, take, drop, map, Some, slice_index, refl, ap, arith, length-drop, length-take}
use Rattle.std.specs.Prelude.{Bool, true, false, cond, filter, slice_get, slice_index_or}
use Rattle.std.specs.List.{range_with_len}

pub take-append : {X : Type 0} (us vs : List X) (n : ℕ) → length us ≡ n → take n (us ++ vs) ≡ us
take-append [] vs zero e = refl
take-append [] vs (suc n) e = absurd (omega arith)
take-append (x ∷ us) vs zero e = absurd (omega arith)
take-append (x ∷ us) vs (suc n) e = ap (λ r. x ∷ r) (take-append us vs n (omega arith))

pub drop-append : {X : Type 0} (us vs : List X) (n : ℕ) → length us ≡ n → drop n (us ++ vs) ≡ vs
drop-append [] vs zero e = refl
drop-append [] vs (suc n) e = absurd (omega arith)
drop-append (x ∷ us) vs zero e = absurd (omega arith)
drop-append (x ∷ us) vs (suc n) e = drop-append us vs n (omega arith)

pub slice_index_or-map : {X Y : Type 0} (f : X → Y) (xs : List X) (i : ℕ) (d : X) → slice_index_or (map f xs) i (f d) ≡ f (slice_index_or xs i d)
slice_index_or-map f [] i d = refl
slice_index_or-map f (x ∷ xs) zero d = refl
slice_index_or-map f (x ∷ xs) (suc i) d = slice_index_or-map f xs i d

pub drop-map : (g : ℕ → ℕ) (n : ℕ) (xs : List ℕ) → drop n (map g xs) ≡ map g (drop n xs)
drop-map g zero xs = refl
drop-map g (suc n) [] = refl
drop-map g (suc n) (x ∷ xs) = drop-map g n xs

pub take-map : (g : ℕ → ℕ) (n : ℕ) (xs : List ℕ) → take n (map g xs) ≡ map g (take n xs)
take-map g zero xs = refl
take-map g (suc n) [] = refl
take-map g (suc n) (x ∷ xs) = ap (λ r. g x ∷ r) (take-map g n xs)

pub length-zero : {A : Type 0} (xs : List A) → length xs ≡ 0 → xs ≡ []
length-zero [] h = refl
length-zero (x ∷ xs) h = absurd (omega arith)

-- tests that agree on a range let the same numbers through
pub filter-agrees : (f g : ℕ → Bool) (s n : ℕ) → ((i : ℕ) → s ≤ i → i < s + n → f i ≡ g i) → filter f (range_with_len s n) ≡ filter g (range_with_len s n)
filter-agrees f g s zero same = refl
filter-agrees f g s (suc n) same =
    let e : f s ≡ g s = same s (omega arith) (omega arith) in
    let r : filter f (range_with_len (s + 1) n) ≡ filter g (range_with_len (s + 1) n) = filter-agrees f g (s + 1) n (λ i l h. same i (omega arith) (omega arith)) in
    λ j. cond (e j) (s ∷ r j) (r j)

-- an injective function tells lists apart
pub map-injective : (F : ℕ → ℕ) → ((x y : ℕ) → F x ≡ F y → x ≡ y) → (xs ys : List ℕ) → map F xs ≡ map F ys → xs ≡ ys
map-injective F inj [] [] e = refl
map-injective F inj [] (y ∷ ys) e = cc
map-injective F inj (x ∷ xs) [] e = cc
map-injective F inj (x ∷ xs) (y ∷ ys) e =
    let h : F x ≡ F y = cc in
    let t : map F xs ≡ map F ys = cc in
    λ i. inj x y h i ∷ map-injective F inj xs ys t i

pub slice_get-append_left : {X : Type 0} (xs ys : List X) (p : ℕ) (x : X) → slice_get xs p ≡ Some x → slice_get (xs ++ ys) p ≡ Some x
slice_get-append_left [] ys p x e = cc
slice_get-append_left (y ∷ xs) ys zero x e = e
slice_get-append_left (y ∷ xs) ys (suc p) x e = slice_get-append_left xs ys p x e

pub slice_get-append_end : {X : Type 0} (xs : List X) (y : X) → slice_get (xs ++ y ∷ []) (length xs) ≡ Some y
slice_get-append_end [] y = refl
slice_get-append_end (x ∷ xs) y = slice_get-append_end xs y

-- a list with a first name, and the names below a binder
pub first-and_rest : (xs : List ℕ) (n : ℕ) → length xs ≡ suc n → slice_index xs 0 ∷ drop 1 xs ≡ xs
first-and_rest [] n h = absurd (omega arith)
first-and_rest (x ∷ xs) n h = refl

pub length-parts : (xs : List ℕ) (n m : ℕ) → length xs ≡ suc (n + m) → (length (take n (drop 1 xs)) ≡ n) × (length (drop n (drop 1 xs)) ≡ m)
length-parts xs n m h =
    (omega (arith, length-take n (drop 1 xs), length-drop 1 xs), omega (arith, length-drop n (drop 1 xs), length-drop 1 xs))

pub length-map_names : (f : ℕ → ℕ) (xs : List ℕ) → length (map f xs) ≡ length xs
length-map_names f [] = refl
length-map_names f (x ∷ xs) = ap suc (length-map_names f xs)

pub drop-drop_one : (n : ℕ) (xs : List ℕ) → drop n (drop 1 xs) ≡ drop (suc n) xs
drop-drop_one n (x ∷ xs) = refl
drop-drop_one zero [] = refl
drop-drop_one (suc n) [] = refl

pub first-take : (n : ℕ) (xs : List ℕ) → slice_index (take (suc n) xs) 0 ≡ slice_index xs 0
first-take n [] = refl
first-take n (x ∷ xs) = refl

pub drop_one-take : (n : ℕ) (xs : List ℕ) → drop 1 (take (suc n) xs) ≡ take n (drop 1 xs)
drop_one-take zero [] = refl
drop_one-take (suc n) [] = refl
drop_one-take n (x ∷ xs) = refl

-- one more element passes a test, or fails it
pub filter-yes : {X : Type 0} (p : X → Bool) (x : X) (xs : List X) → p x ≡ true → filter p (x ∷ xs) ≡ x ∷ filter p xs
filter-yes p x xs holds = ap (λ (b : Bool). cond b (x ∷ filter p xs) (filter p xs)) holds

pub filter-no : {X : Type 0} (p : X → Bool) (x : X) (xs : List X) → p x ≡ false → filter p (x ∷ xs) ≡ filter p xs
filter-no p x xs lacks = ap (λ (b : Bool). cond b (x ∷ filter p xs) (filter p xs)) lacks
