-- A finite map of names, as a list of keys with their values, and as a function on all names.
use Rattle.std.specs.Prelude.{ℕ, ◌+◌, List, [], ◌∷◌, max, unwrap_or}
pub use Rattle.slotted_lists.specs.Maps.{value_of, with_values, HasValue, IsInjectiveMap}

-- a number above all values
abbrev pub top : List (ℕ × ℕ) → ℕ
top [] = 0
top (p ∷ m) = max (p.1 + 1) (top m)

-- the map on all names: what it lacks goes past all its values
abbrev pub filled : List (ℕ × ℕ) → ℕ → ℕ
filled m x = unwrap_or (value_of m x) (top m + x)
