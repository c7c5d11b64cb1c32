-- Membership in a list, by a walk over the list.
use Rattle.std.proofs.Common.{◌≡◌, ℕ, zero, suc, ◌<◌, List, [], ◌∷◌, ◌++◌, length, take, drop, get_or, sym, ◌∙◌, ap, refl, inl, inr, arith, true, false, ◌⊎◌}
use Rattle.std.specs.Prelude.{Bool, Contains, cond, filter, map, slice_index}

-- x is one of the list
abbrev pub In : {X : Type 0} → X → List X → Type 0
In x [] = ⊥
In x (y ∷ ys) = (x ≡ y) ⊎ In x ys

pub In-left : {X : Type 0} (x : X) (xs ys : List X) → In x xs → In x (xs ++ ys)
In-left x [] ys h = absurd h
In-left x (y ∷ xs) ys (inl e) = inl e
In-left x (y ∷ xs) ys (inr h) = inr (In-left x xs ys h)

pub In-right : {X : Type 0} (x : X) (xs ys : List X) → In x ys → In x (xs ++ ys)
In-right x [] ys h = h
In-right x (y ∷ xs) ys h = inr (In-right x xs ys h)

pub In-append : {X : Type 0} (x : X) (xs ys : List X) → In x (xs ++ ys) → In x xs ⊎ In x ys
In-append x [] ys h = inr h
In-append x (y ∷ xs) ys (inl e) = inl (inl e)
In-append x (y ∷ xs) ys (inr h) = elim (In-append x xs ys h) [
  | inl k ↦ inl (inr k)
  | inr k ↦ inr k
]

pub In-map : {X Y : Type 0} (f : X → Y) (xs : List X) (x : X) → In x xs → In (f x) (map f xs)
In-map f [] x h = absurd h
In-map f (y ∷ xs) x (inl e) = inl (ap f e)
In-map f (y ∷ xs) x (inr h) = inr (In-map f xs x h)

-- what a mapped list has comes from the list
pub In-of_map : {X Y : Type 0} (f : X → Y) (xs : List X) (y : Y) → In y (map f xs) → (x : X) × In x xs × (y ≡ f x)
In-of_map f [] y h = absurd h
In-of_map f (x ∷ xs) y (inl e) = (x, inl refl, e)
In-of_map f (x ∷ xs) y (inr h) =
    let r : (x' : _) × In x' xs × (y ≡ f x') = In-of_map f xs y h in
    (r.0, inr r.1, r.2)

in_at : {X : Type 0} (xs : List X) (x : X) (k : ℕ) → k < length xs → get_or xs k x ≡ x → In x xs
in_at [] x k l e = absurd (omega arith)
in_at (y ∷ xs) x zero l e = inl (sym e)
in_at (y ∷ xs) x (suc k) l e = inr (in_at xs x k (omega arith) e)

pub In-Contains : {X : Type 0} (xs : List X) (x : X) → Contains xs x → In x xs
In-Contains xs x c = in_at xs x c.0 c.1 c.2

pub Contains-In : {X : Type 0} (xs : List X) (x : X) → In x xs → Contains xs x
Contains-In [] x h = absurd h
Contains-In (y ∷ xs) x (inl e) = (0, omega arith, sym e)
Contains-In (y ∷ xs) x (inr h) =
    let c : Contains xs x = Contains-In xs x h in
    (suc c.0, omega (arith, c.1), c.2)

pub In-take : (n : ℕ) (xs : List ℕ) (x : ℕ) → In x (take n xs) → In x xs
In-take zero xs x h = absurd h
In-take (suc n) [] x h = absurd h
In-take (suc n) (y ∷ ys) x (inl e) = inl e
In-take (suc n) (y ∷ ys) x (inr h) = inr (In-take n ys x h)

pub In-drop : (n : ℕ) (xs : List ℕ) (x : ℕ) → In x (drop n xs) → In x xs
In-drop zero xs x h = h
In-drop (suc n) [] x h = absurd h
In-drop (suc n) (y ∷ ys) x h = inr (In-drop n ys x h)

pub In-first : (xs : List ℕ) (n : ℕ) → length xs ≡ suc n → In (slice_index xs 0) xs
In-first [] n e = absurd (omega (arith, e))
In-first (x ∷ xs) n e = inl refl

pub In-filter : {A : Type 0} (p : A → Bool) (xs : List A) (x : A) → In x (filter p xs) → In x xs × (p x ≡ true)
In-filter p [] x i = absurd i
In-filter p (y ∷ xs) x i = go (p y) refl i (λ j. In-filter p xs x j)
  where
    go : (b : Bool) → p y ≡ b → In x (cond b (y ∷ filter p xs) (filter p xs)) → (In x (filter p xs) → In x xs × (p x ≡ true)) → In x (y ∷ xs) × (p x ≡ true)
    go true e (inl same) later = (inl same, ap p same ∙ e)
    go true e (inr j) later = let r = later j in (inr r.0, r.1)
    go false e j later = let r = later j in (inr r.0, r.1)
