-- Correspondences: an equation between two classes, read up to renaming, is which slots of the one carry a name with which slots of the other.
--     IsFullMap P m              m gives each slot of P a name of its own, in the order of P
--     same_names m n             the pairs (s, t) of slots with one name, m s = n t
--     IsPartialInjection P Q A   A pairs slots of P with slots of Q, each with at most one, in the order of P
--     turned Q A                 the inverse, in the order of Q
--     composite A B              first A, then B
--     identity P                 each slot of P with itself
--     IsMatch m n m' n'          one injective map of names takes m to m' and n to n'
--     CanJoin A A1 A2            names for the middle can be chosen by which a transitive step over A1 and A2 proves A
--     numbered P Q A             the two full maps of correspondence A whose names are numbered as they first occur (IsNumberedForm)
use Rattle.std.specs.Prelude.{◌≡◌, ◌++◌, ℕ, suc, ◌<◌, List, [], ◌∷◌, length, map, filter_map, Contains, Option, option_map, unwrap_or, is_some, Bool, cond, not, ◌&&◌, ◌||◌, nat_eq, ◌⊎◌}
use Rattle.std.specs.List.{list_any, list_all}
use Rattle.std.specs.Map.{keys_of, values_of}
use Rattle.slotted_theory.specs.Renaming.{IsInjective}
use Rattle.slotted_theory.specs.FiniteMaps.{value_of, IsInjectiveMap, with_values}

-- no slot stands twice
abbrev pub AllDifferent : List ℕ → Type 0
AllDifferent [] = Unit {0}
AllDifferent (s ∷ P) = (¬ Contains P s) × AllDifferent P

-- a name for each slot of P, in the order of P, where no slot stands twice in P and no name is given twice
pub record IsFullMap (P : List ℕ) (m : List (ℕ × ℕ)) : Type 0 where
  pub slots : keys_of m ≡ P
  pub once : AllDifferent P
  pub injective : IsInjectiveMap m

-- f tells the names of the list apart
abbrev pub IsInjectiveOn : (ℕ → ℕ) → List ℕ → Type 0
IsInjectiveOn f xs = (x y : ℕ) → Contains xs x → Contains xs y → f x ≡ f y → x ≡ y

-- the pairs (s, f s) for the slots s of P of which f says something, in the order of P
abbrev pub pairs_on : List ℕ → (ℕ → Option ℕ) → List (ℕ × ℕ)
pairs_on P f = filter_map (λ s. option_map (λ t. (s, t)) (f s)) P

-- each pair turned round
abbrev pub flipped : List (ℕ × ℕ) → List (ℕ × ℕ)
flipped A = map (λ p. (p.1, p.0)) A

-- first A, then B: the pairs (s, u) with (s, t) in A and (t, u) in B
abbrev pub composite : List (ℕ × ℕ) → List (ℕ × ℕ) → List (ℕ × ℕ)
composite A B = filter_map (λ p. option_map (λ u. (p.0, u)) (value_of B p.1)) A

-- the pairs (t, s) with (s, t) in A, in the order of Q
abbrev pub turned : List ℕ → List (ℕ × ℕ) → List (ℕ × ℕ)
turned Q A = pairs_on Q (value_of (flipped A))

-- each slot with itself
abbrev pub identity : List ℕ → List (ℕ × ℕ)
identity P = map (λ s. (s, s)) P

-- the pairs (s, t) of slots to which m and n give one name: from s to its name, and from the name to t
abbrev pub same_names : List (ℕ × ℕ) → List (ℕ × ℕ) → List (ℕ × ℕ)
same_names m n = composite m (flipped n)

-- A pairs slots of P with slots of Q: it says at most one thing of each s of P, in the order of P, and no t of Q has two partners
pub record IsPartialInjection (P Q : List ℕ) (A : List (ℕ × ℕ)) : Type 0 where
  pub in_order : pairs_on P (value_of A) ≡ A
  pub within : (s t : ℕ) → Contains A (s, t) → Contains Q t
  pub injective : (s s' t : ℕ) → Contains A (s, t) → Contains A (s', t) → s ≡ s'

-- one injective map of names takes the maps m and n, the two sides of an equation, to m' and n'
pub record IsMatch (m n m' n' : List (ℕ × ℕ)) : Type 0 where
  pub name : ℕ → ℕ
  pub injective : IsInjective name
  pub left : m' ≡ with_values name m
  pub right : n' ≡ with_values name n

-- what goes over the middle is in A, and a pair of A with a slot that the one half takes to the middle, or the other half from it, goes over the middle
pub record CanJoin (A A1 A2 : List (ℕ × ℕ)) : Type 0 where
  pub within : (s u : ℕ) → Contains (composite A1 A2) (s, u) → Contains A (s, u)
  pub from_left : (s u : ℕ) → Contains A (s, u) → Contains (keys_of A1) s → Contains (composite A1 A2) (s, u)
  pub from_right : (s u : ℕ) → Contains A (s, u) → Contains (values_of A2) u → Contains (composite A1 A2) (s, u)

-- whether the pair stands in the list
abbrev pub has_pair : List (ℕ × ℕ) → ℕ × ℕ → Bool
has_pair A p = list_any (λ q. nat_eq q.0 p.0 && nat_eq q.1 p.1) A

-- whether the slot stands in the list
abbrev pub has_slot : List ℕ → ℕ → Bool
has_slot P s = list_any (nat_eq s) P

-- whether A1 and A2 can be joined to A
abbrev pub can_join : List (ℕ × ℕ) → List (ℕ × ℕ) → List (ℕ × ℕ) → Bool
can_join A A1 A2 =
    list_all (has_pair A) (composite A1 A2)
    && list_all (λ p. has_pair (composite A1 A2) p || not (has_slot (keys_of A1) p.0 || has_slot (values_of A2) p.1)) A

-- the slots of P with the names k, k + 1 and so on
abbrev pub numbered_from : ℕ → List ℕ → List (ℕ × ℕ)
numbered_from k [] = []
numbered_from k (s ∷ P) = (s, k) ∷ numbered_from (suc k) P

-- the slots of Q with the names that f says, and those of which it says nothing with the names k, k + 1 and so on
abbrev pub numbered_after : (ℕ → Option ℕ) → ℕ → List ℕ → List (ℕ × ℕ)
numbered_after f k [] = []
numbered_after f k (t ∷ Q) = (t, unwrap_or (f t) k) ∷ numbered_after f (cond (is_some (f t)) k (suc k)) Q

-- the left side with the names 0, 1 and so on, and the right side with the names of its partners there, and new ones for the rest
abbrev pub numbered : List ℕ → List ℕ → List (ℕ × ℕ) → List (ℕ × ℕ) × List (ℕ × ℕ)
numbered P Q A = (numbered_from 0 P, numbered_after (value_of (composite (flipped A) (numbered_from 0 P))) (length P) Q)

-- after k names each further name is one of those, or the next new number
abbrev pub IsNumberedAfter : ℕ → List ℕ → Type 0
IsNumberedAfter k [] = Unit {0}
IsNumberedAfter k (x ∷ xs) = ((x < k) × IsNumberedAfter k xs) ⊎ ((x ≡ k) × IsNumberedAfter (suc k) xs)

-- full maps of the correspondence A whose names are numbered from 0 as they first occur, left side first
pub record IsNumberedForm (P Q : List ℕ) (A m n : List (ℕ × ℕ)) : Type 0 where
  pub left : IsFullMap P m
  pub right : IsFullMap Q n
  pub correspondence : same_names m n ≡ A
  pub numbers : IsNumberedAfter 0 (values_of m ++ values_of n)
