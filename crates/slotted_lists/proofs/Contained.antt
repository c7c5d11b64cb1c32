-- What a list contains, by places.
use Rattle.std.proofs.Common.{◌≡◌, ℕ, zero, suc, ◌<◌, List, [], ◌∷◌, ◌++◌, length, get_or, sym, ◌∙◌, ap, refl, arith, inl, inr}
use Rattle.std.specs.Prelude.{Contains, map, max, ◌+◌, ◌⊎◌}
use Rattle.std.proofs.lemmas.List.{get_or_default}
use Rattle.std.proofs.lemmas.List.Elements.{Contains-append_cases}

pub contains_head : {X : Type 0} (x : X) (xs : List X) → Contains (x ∷ xs) x
contains_head x xs = (0, omega arith, refl)

pub contains_tail : {X : Type 0} (x : X) (xs : List X) (y : X) → Contains xs y → Contains (x ∷ xs) y
contains_tail x xs y c = (suc c.0, omega (arith, c.1), c.2)

contains_cases_at : {X : Type 0} (x : X) (xs : List X) (y : X) (k : ℕ) → k < length (x ∷ xs) → get_or (x ∷ xs) k y ≡ y → (y ≡ x) ⊎ Contains xs y
contains_cases_at x xs y zero h e = inl (sym e)
contains_cases_at x xs y (suc k) h e = inr (k, omega arith, e)

-- an element of a list is its head or an element of its tail
pub contains_cases : {X : Type 0} (x : X) (xs : List X) (y : X) → Contains (x ∷ xs) y → (y ≡ x) ⊎ Contains xs y
contains_cases x xs y c = contains_cases_at x xs y c.0 c.1 c.2

pub Contains-nil : {X : Type 0} (x : X) → Contains [] x → ⊥
Contains-nil x c = omega (arith, c.1)

pub Contains-map : {X Y : Type 0} (f : X → Y) (xs : List X) (x : X) → Contains xs x → Contains (map f xs) (f x)
Contains-map f [] x c = absurd (Contains-nil x c)
Contains-map f (y ∷ ys) x c = elim (contains_cases y ys x c) [
  | inl e ↦ (0, omega arith, ap f (sym e))
  | inr h ↦ contains_tail (f y) (map f ys) (f x) (Contains-map f ys x h)
]

of_map_at : {X Y : Type 0} (f : X → Y) (xs : List X) (y : Y) (k : ℕ) → k < length (map f xs) → get_or (map f xs) k y ≡ y → (x : X) × Contains xs x × (f x ≡ y)
of_map_at f [] y k h e = absurd (omega arith)
of_map_at f (x ∷ xs) y zero h e = (x, contains_head x xs, e)
of_map_at f (x ∷ xs) y (suc k) h e =
    let r : (x' : _) × Contains xs x' × (f x' ≡ y) = of_map_at f xs y k (omega arith) e in
    (r.0, contains_tail x xs r.0 r.1, r.2)

pub Contains-of_map : {X Y : Type 0} (f : X → Y) (xs : List X) (y : Y) → Contains (map f xs) y → (x : X) × Contains xs x × (f x ≡ y)
Contains-of_map f xs y c = of_map_at f xs y c.0 c.1 c.2

-- two functions that map a list alike agree on its elements
pub map-agrees : (f g : ℕ → ℕ) (xs : List ℕ) → map f xs ≡ map g xs → (x : ℕ) → Contains xs x → f x ≡ g x
map-agrees f g [] e x c = absurd (Contains-nil x c)
map-agrees f g (y ∷ ys) e x c = elim (contains_cases y ys x c) [
  | inl p ↦ let h : f y ≡ g y = cc in ap f p ∙ (h ∙ ap g (sym p))
  | inr h ↦ map-agrees f g ys (cc) x h
]

-- a number above all elements
abbrev pub above : List ℕ → ℕ
above [] = 0
above (x ∷ xs) = max (x + 1) (above xs)

pub Contains-below : (xs : List ℕ) (x : ℕ) → Contains xs x → x < above xs
Contains-below [] x c = absurd (Contains-nil x c)
Contains-below (y ∷ ys) x c = elim (contains_cases y ys x c) [
  | inl e ↦ omega arith
  | inr h ↦ let l : x < above ys = Contains-below ys x h in omega arith
]

-- lists that begin with lists of one length are equal part by part
pub append_parts : {A : Type 0} (xs us ys vs : List A) → length xs ≡ length us → xs ++ ys ≡ us ++ vs → (xs ≡ us) × (ys ≡ vs)
append_parts [] [] ys vs n h = (refl, h)
append_parts [] (u ∷ us) ys vs n h = absurd (omega arith)
append_parts (x ∷ xs) [] ys vs n h = absurd (omega arith)
append_parts (x ∷ xs) (u ∷ us) ys vs n h =
    let p : x ≡ u = cc in
    let q : xs ++ ys ≡ us ++ vs = cc in
    let r = append_parts xs us ys vs (omega arith) q in
    (λ i. p i ∷ r.0 i, r.1)

-- one of a list with one more at its end
pub contains_cases-end : {X : Type 0} (xs : List X) (y x : X) → Contains (xs ++ y ∷ []) x → Contains xs x ⊎ (x ≡ y)
contains_cases-end xs y x h = elim (Contains-append_cases xs (y ∷ []) x h) [
  | inl k ↦ inl k
  | inr k ↦ elim (contains_cases y [] x k) [
    | inl e ↦ inr e
    | inr n ↦ absurd (Contains-nil x n)
  ]
]

-- functions that agree on a list map it alike
pub map-agree : {X Y : Type 0} (f g : X → Y) (xs : List X) → ((x : X) → Contains xs x → f x ≡ g x) → map f xs ≡ map g xs
map-agree f g [] h = refl
map-agree f g (x ∷ xs) h = λ i. h x (contains_head x xs) i ∷ map-agree f g xs (λ y c. h y (contains_tail x xs y c)) i

pub Contains-get_or : {X : Type 0} (xs : List X) (i : ℕ) (d : X) → i < length xs → Contains xs (get_or xs i d)
Contains-get_or xs i d l = (i, l, get_or_default xs i (get_or xs i d) d l)
