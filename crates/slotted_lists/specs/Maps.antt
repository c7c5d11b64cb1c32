-- Finite maps of numbers as lists of pairs.
--     value_of m k       the value at a key: that of the first pair with it
--     keys m, values m   the keys and the values, in the order of the pairs
--     with_values f m    the map with f put on its values
--     HasValue m v       v is a value of the map
--     IsInjectiveMap m   no value stands twice
--     is_among v xs      v is one of the numbers
use Rattle.std.specs.Prelude.{◌≡◌, ℕ, Bool, List, [], ◌∷◌, map, Option, nat_eq, ◌==◌, ◌⊎◌}
use Rattle.std.specs.List.{list_any}
use Rattle.std.specs.Map.{lookup}

abbrev pub value_of : List (ℕ × ℕ) → ℕ → Option ℕ
value_of m k = lookup (nat_eq k) m

abbrev pub keys : List (ℕ × ℕ) → List ℕ
keys m = map (λ p. p.0) m

abbrev pub values : List (ℕ × ℕ) → List ℕ
values m = map (λ p. p.1) m

abbrev pub with_values : (ℕ → ℕ) → List (ℕ × ℕ) → List (ℕ × ℕ)
with_values f m = map (λ p. (p.0, f p.1)) m

abbrev pub HasValue : List (ℕ × ℕ) → ℕ → Type 0
HasValue [] v = ⊥
HasValue (p ∷ m) v = (v ≡ p.1) ⊎ HasValue m v

abbrev pub IsInjectiveMap : List (ℕ × ℕ) → Type 0
IsInjectiveMap [] = Unit {0}
IsInjectiveMap (p ∷ m) = (¬ HasValue m p.1) × IsInjectiveMap m

abbrev pub is_among : ℕ → List ℕ → Bool
is_among v xs = list_any (λ x. x == v) xs
