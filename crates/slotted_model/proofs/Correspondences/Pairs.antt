-- Lists of pairs: what a filter of them contains, and what is found in them.
use Rattle.std.proofs.Common.{◌≡◌, ℕ, List, [], ◌∷◌, Option, Some, None, sym, ◌∙◌, ap, refl, subst, inl, inr}
use Rattle.std.specs.Prelude.{Contains, filter_map, option_map, ◌⊎◌}
use Rattle.std.specs.List.{cons_option}
use Rattle.std.specs.Map.{keys_of, values_of}
use Rattle.std.proofs.lemmas.Bool.{cases_eq}
use Rattle.std.proofs.lemmas.Option.{none-some, same_Some}
use Rattle.slotted_lists.proofs.Contained.{contains_head, contains_tail, contains_cases, Contains-nil, Contains-map, Contains-of_map}
use Rattle.slotted_lists.proofs.Maps.{value_of-first, value_of-rest}
use Rattle.slotted_lists.proofs.Members.{Contains-In, In, In-Contains}
use Rattle.slotted_theory.specs.FiniteMaps.{value_of}
use Rattle.slotted_model.specs.Correspondence.{pairs_on, flipped, composite}
use Rattle.slotted_model.specs.Applied.{values}

-- an optional element before a list
cons_option-here : {Y : Type 0} (o : Option Y) (ys : List Y) (y : Y) → o ≡ Some y → Contains (cons_option o ys) y
cons_option-here None ys y e = absurd (none-some y e)
cons_option-here (Some z) ys y e = subst (λ w. Contains (z ∷ ys) w) (same_Some z y e) (contains_head z ys)

cons_option-there : {Y : Type 0} (o : Option Y) (ys : List Y) (y : Y) → Contains ys y → Contains (cons_option o ys) y
cons_option-there None ys y c = c
cons_option-there (Some z) ys y c = contains_tail z ys y c

cons_option-cases : {Y : Type 0} (o : Option Y) (ys : List Y) (y : Y) → Contains (cons_option o ys) y → (o ≡ Some y) ⊎ Contains ys y
cons_option-cases None ys y c = inr c
cons_option-cases (Some z) ys y c = elim (contains_cases z ys y c) [
  | inl e ↦ inl (ap Some (sym e))
  | inr h ↦ inr h
]

-- what a list of chosen elements contains
pub Contains-filter_map : {X Y : Type 0} (h : X → Option Y) (xs : List X) (x : X) (y : Y) → Contains xs x → h x ≡ Some y → Contains (filter_map h xs) y
Contains-filter_map h [] x y c e = absurd (Contains-nil x c)
Contains-filter_map h (z ∷ zs) x y c e = elim (contains_cases z zs x c) [
  | inl p ↦ cons_option-here (h z) (filter_map h zs) y (ap h (sym p) ∙ e)
  | inr d ↦ cons_option-there (h z) (filter_map h zs) y (Contains-filter_map h zs x y d e)
]

pub Contains-of_filter_map : {X Y : Type 0} (h : X → Option Y) (xs : List X) (y : Y) → Contains (filter_map h xs) y → (x : X) × Contains xs x × (h x ≡ Some y)
Contains-of_filter_map h [] y c = absurd (Contains-nil y c)
Contains-of_filter_map h (z ∷ zs) y c = elim (cons_option-cases (h z) (filter_map h zs) y c) [
  | inl e ↦ (z, contains_head z zs, e)
  | inr d ↦
      let r : (x : _) × Contains zs x × (h x ≡ Some y) = Contains-of_filter_map h zs y d in
      (r.0, contains_tail z zs r.0 r.1, r.2)
]

option_map-some : {X Y : Type 0} (f : X → Y) (o : Option X) (y : Y) → option_map f o ≡ Some y → (x : X) × (o ≡ Some x) × (f x ≡ y)
option_map-some f None y e = absurd (none-some y e)
option_map-some f (Some x) y e = (x, refl, same_Some (f x) y e)

-- a pair whose first part is s
paired : (s : ℕ) (o : Option ℕ) (r t : ℕ) → option_map {U = ℕ × ℕ} (λ v. (s, v)) o ≡ Some (r, t) → (s ≡ r) × (o ≡ Some t)
paired s o r t e =
    let p : (v : ℕ) × (o ≡ Some v) × (◌≡◌ {A = ℕ × ℕ} (s, v) (r, t)) = option_map-some (λ v. (s, v)) o (r, t) e in
    (ap (λ q. q.0) p.2, p.1 ∙ ap (λ q. Some q.1) p.2)

-- the pairs (s, f s) for s in P
pub Contains-pairs_on : (P : List ℕ) (f : ℕ → Option ℕ) (s t : ℕ) → Contains P s → f s ≡ Some t → Contains (pairs_on P f) (s, t)
Contains-pairs_on P f s t c e = Contains-filter_map (λ x. option_map (λ v. (x, v)) (f x)) P s (s, t) c (ap (option_map (λ v. (s, v))) e)

pub Contains-of_pairs_on : (P : List ℕ) (f : ℕ → Option ℕ) (s t : ℕ) → Contains (pairs_on P f) (s, t) → Contains P s × (f s ≡ Some t)
Contains-of_pairs_on P f s t c =
    let r : (x : ℕ) × Contains P x × (option_map {U = ℕ × ℕ} (λ v. (x, v)) (f x) ≡ Some (s, t)) = Contains-of_filter_map (λ x. option_map (λ v. (x, v)) (f x)) P (s, t) c in
    let p : (r.0 ≡ s) × (f r.0 ≡ Some t) = paired r.0 (f r.0) s t r.2 in
    (subst (λ x. Contains P x) p.0 r.1, subst (λ x. f x ≡ Some t) p.0 p.1)

-- first A, then B
pub Contains-composite : (A B : List (ℕ × ℕ)) (s t u : ℕ) → Contains A (s, t) → value_of B t ≡ Some u → Contains (composite A B) (s, u)
Contains-composite A B s t u c e =
    Contains-filter_map (λ p. option_map (λ v. (p.0, v)) (value_of B p.1)) A (s, t) (s, u) c (ap (option_map (λ v. (s, v))) e)

pub Contains-of_composite : (A B : List (ℕ × ℕ)) (s u : ℕ) → Contains (composite A B) (s, u) → (t : ℕ) × Contains A (s, t) × (value_of B t ≡ Some u)
Contains-of_composite A B s u c =
    let r : (p : ℕ × ℕ) × Contains A p × (option_map {U = ℕ × ℕ} (λ v. (p.0, v)) (value_of B p.1) ≡ Some (s, u)) = Contains-of_filter_map (λ p. option_map (λ v. (p.0, v)) (value_of B p.1)) A (s, u) c in
    let e : (r.0.0 ≡ s) × (value_of B r.0.1 ≡ Some u) = paired r.0.0 (value_of B r.0.1) s u r.2 in
    (r.0.1, subst (λ x. Contains A (x, r.0.1)) e.0 r.1, e.1)

-- the pairs turned round
pub Contains-flipped : (A : List (ℕ × ℕ)) (s t : ℕ) → Contains A (s, t) → Contains (flipped A) (t, s)
Contains-flipped A s t c = Contains-map (λ p. (p.1, p.0)) A (s, t) c

pub Contains-of_flipped : (A : List (ℕ × ℕ)) (s t : ℕ) → Contains (flipped A) (t, s) → Contains A (s, t)
Contains-of_flipped A s t c =
    let r : (p : ℕ × ℕ) × Contains A p × (◌≡◌ {A = ℕ × ℕ} (p.1, p.0) (t, s)) = Contains-of_map (λ p. (p.1, p.0)) A (t, s) c in
    subst (λ q. Contains A q) (λ i. ((r.2 i).1, (r.2 i).0)) r.1

-- a key and a value of a pair
pub Contains-key : (A : List (ℕ × ℕ)) (s t : ℕ) → Contains A (s, t) → Contains (keys_of A) s
Contains-key A s t c = Contains-map (λ p. p.0) A (s, t) c

pub Contains-value : (A : List (ℕ × ℕ)) (s t : ℕ) → Contains A (s, t) → Contains (values_of A) t
Contains-value A s t c = Contains-map (λ p. p.1) A (s, t) c

pub Contains-of_key : (A : List (ℕ × ℕ)) (s : ℕ) → Contains (keys_of A) s → (t : ℕ) × Contains A (s, t)
Contains-of_key A s c =
    let r : (p : ℕ × ℕ) × Contains A p × (p.0 ≡ s) = Contains-of_map (λ p. p.0) A s c in
    (r.0.1, subst (λ x. Contains A (x, r.0.1)) r.2 r.1)

pub Contains-of_value : (A : List (ℕ × ℕ)) (t : ℕ) → Contains (values_of A) t → (s : ℕ) × Contains A (s, t)
Contains-of_value A t c =
    let r : (p : ℕ × ℕ) × Contains A p × (p.1 ≡ t) = Contains-of_map (λ p. p.1) A t c in
    (r.0.0, subst (λ x. Contains A (r.0.0, x)) r.2 r.1)

pub Contains-value_of : (A : List (ℕ × ℕ)) (s t : ℕ) → value_of A s ≡ Some t → Contains A (s, t)
Contains-value_of [] s t e = absurd (none-some t e)
Contains-value_of (p ∷ A) s t e = elim (cases_eq s p.0) [
  | inl d ↦
      let v : p.1 ≡ t = same_Some p.1 t (sym (value_of-first p A s d) ∙ e) in
      subst (λ q. Contains (p ∷ A) q) (λ i. (sym d i, v i)) (contains_head p A)
  | inr n ↦ contains_tail p A (s, t) (Contains-value_of A s t (sym (value_of-rest p A s n) ∙ e))
]

pub value_of-found : (A : List (ℕ × ℕ)) (s t : ℕ) → Contains A (s, t) → (v : ℕ) × (value_of A s ≡ Some v)
value_of-found [] s t c = absurd (Contains-nil (s, t) c)
value_of-found (p ∷ A) s t c = elim (cases_eq s p.0) [
  | inl d ↦ (p.1, value_of-first p A s d)
  | inr n ↦ elim (contains_cases p A (s, t) c) [
    | inl e ↦ absurd (n (ap (λ q. q.0) e))
    | inr h ↦
        let r : (v : ℕ) × (value_of A s ≡ Some v) = value_of-found A s t h in
        (r.0, value_of-rest p A s n ∙ r.1)
  ]
]

-- where only t can be found at s, it is found
pub value_of-only : (A : List (ℕ × ℕ)) (s t : ℕ) → Contains A (s, t) → ((v : ℕ) → Contains A (s, v) → v ≡ t) → value_of A s ≡ Some t
value_of-only A s t c h =
    let r : (v : ℕ) × (value_of A s ≡ Some v) = value_of-found A s t c in
    r.1 ∙ ap Some (h r.0 (Contains-value_of A s r.0 r.1))

-- two functions that agree on P give the same pairs
pub pairs_on-agree : (P : List ℕ) (f g : ℕ → Option ℕ) → ((s : ℕ) → Contains P s → f s ≡ g s) → pairs_on P f ≡ pairs_on P g
pairs_on-agree [] f g h = refl
pairs_on-agree (s ∷ P) f g h =
    λ i. cons_option (option_map (λ t. (s, t)) (h s (contains_head s P) i)) (pairs_on-agree P f g (λ x c. h x (contains_tail s P x c)) i)

pub In-values_composite : (A m : List (ℕ × ℕ)) (x : ℕ) → In x (values (composite A m)) → In x (values m)
In-values_composite A m x h =
    let p = Contains-of_value (composite A m) x (Contains-In (values (composite A m)) x h) in
    let q = Contains-of_composite A m p.0 x p.1 in
    In-Contains (values m) x (Contains-value m q.0 x (Contains-value_of m q.0 x q.2))
