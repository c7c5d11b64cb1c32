-- Slot maps as lists of pairs in key order.
use Rattle.std.specs.Prelude.{All, IsSome, ℕ, suc, zero, Bool, true, not, ◌&&◌, ◌↔◌, ◌⊎◌, fold, ◌<◌, ◌≤◌, ◌≡◌, List, [], ◌∷◌, length, Option, Some, None, ◌==◌, map, refl, slice_set, slice_index_or, if◌then◌else◌, nat_lt, IsTrue}
use Rattle.std.proofs.Common.{ap}
pub use Rattle.slotted_lists.specs.Maps.{is_among, keys, values}

-- the value at a key
abbrev pub value_of : List (ℕ × ℕ) → ℕ → Option ℕ
value_of [] k = None
value_of (p ∷ m) k = if p.0 == k then Some p.1 else value_of m k

-- the list with another value at a position
abbrev pub with_value_at : List (ℕ × ℕ) → ℕ → ℕ → List (ℕ × ℕ)
with_value_at m i v = slice_set m i ((slice_index_or m i (0, 0)).0, v)

-- the list with a pair put in at its place in the order of the keys, in the place of a pair with that key
abbrev pub with_pair : List (ℕ × ℕ) → ℕ → ℕ → List (ℕ × ℕ)
with_pair [] l r = (l, r) ∷ []
with_pair (p ∷ m) l r = if nat_lt l p.0 then (l, r) ∷ p ∷ m else (if p.0 == l then (l, r) ∷ m else p ∷ with_pair m l r)

-- the list without the pair of a key
abbrev pub without_key : List (ℕ × ℕ) → ℕ → List (ℕ × ℕ)
without_key [] k = []
without_key (p ∷ m) k = if p.0 == k then m else p ∷ without_key m k

-- the map of the pairs of any list: of two with one key the later counts
abbrev pub map_of : List (ℕ × ℕ) → List (ℕ × ℕ)
map_of ps = fold (λ m p. with_pair m p.0 p.1) [] ps

-- each pair turned round
abbrev pub turned : List (ℕ × ℕ) → List (ℕ × ℕ)
turned m = map (λ p. (p.1, p.0)) m

-- each number beside itself
abbrev pub doubled : List ℕ → List (ℕ × ℕ)
doubled xs = map (λ x. (x, x)) xs

-- a key in front of a map, where it has a value
abbrev pub with_first : ℕ → Option ℕ → List (ℕ × ℕ) → List (ℕ × ℕ)
with_first k (Some v) m = (k, v) ∷ m
with_first k None m = m

-- first m, then n: the keys of m whose value n knows
abbrev pub composed : List (ℕ × ℕ) → List (ℕ × ℕ) → List (ℕ × ℕ)
composed [] n = []
composed (p ∷ m) n = with_first p.0 (value_of n p.1) (composed m n)

-- z is one of the numbers of one list or of the other
abbrev pub IsInEither : List ℕ → List ℕ → ℕ → Type 0
IsInEither xs ys z = (is_among z xs ≡ true) ⊎ (is_among z ys ≡ true)

-- no number stands twice
abbrev pub all_differ : List ℕ → Bool
all_differ [] = true
all_differ (x ∷ xs) = not (is_among x xs) && all_differ xs

-- the map has a value at each of the numbers
abbrev pub KnowsAll : List (ℕ × ℕ) → List ℕ → Type 0
KnowsAll m xs = All (λ x. IsSome (value_of m x)) xs

-- n sends back what m sends: it has v at k exactly where m has k at v
abbrev pub IsInverse : List (ℕ × ℕ) → List (ℕ × ℕ) → Type 0
IsInverse m n = (k v : ℕ) → (value_of n v ≡ Some k) ↔ (value_of m k ≡ Some v)

-- no value stands twice
abbrev pub HasDifferentValues : List (ℕ × ℕ) → Type 0
HasDifferentValues m = IsTrue (all_differ (values m))

pub keys-with_value_at : (m : List (ℕ × ℕ)) (i v : ℕ) → keys (with_value_at m i v) ≡ keys m
keys-with_value_at [] i v = refl
keys-with_value_at (p ∷ m) zero v = refl
keys-with_value_at (p ∷ m) (suc i) v = ap (λ r. p.0 ∷ r) (keys-with_value_at m i v)

pub values-with_value_at : (m : List (ℕ × ℕ)) (i v : ℕ) → values (with_value_at m i v) ≡ slice_set (values m) i v
values-with_value_at [] i v = refl
values-with_value_at (p ∷ m) zero v = refl
values-with_value_at (p ∷ m) (suc i) v = ap (λ r. p.1 ∷ r) (values-with_value_at m i v)

-- the key of the pair at place i
abbrev pub key_at : List (ℕ × ℕ) → ℕ → ℕ
key_at m i = let pair = slice_index_or m i (0, 0) in pair.0

-- the pair at place i has the key
pub record IsAt (m : List (ℕ × ℕ)) (key i : ℕ) : Type 0 where
  pub in_range : i < length m
  pub has_key : key_at m i ≡ key

-- the key would go at place i: smaller keys before it, and greater keys from it on
pub record IsGapFor (m : List (ℕ × ℕ)) (key i : ℕ) : Type 0 where
  pub in_range : i ≤ length m
  pub smaller_before : (j : ℕ) → j < i → key_at m j < key
  pub greater_after : (j : ℕ) → i ≤ j → j < length m → key < key_at m j
