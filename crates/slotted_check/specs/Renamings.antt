-- Renamings as lists of pairs.
--     Agrees f m     the function f has the map's value at each of its names
--     Extends m n    what a name becomes by m it becomes by n
use Rattle.std.specs.Prelude.{◌≡◌, ℕ, List, Some}
use Rattle.slotted_theory.specs.FiniteMaps.{value_of}

abbrev pub Agrees : (ℕ → ℕ) → List (ℕ × ℕ) → Type 0
Agrees f m = (x v : ℕ) → value_of m x ≡ Some v → f x ≡ v

abbrev pub Extends : List (ℕ × ℕ) → List (ℕ × ℕ) → Type 0
Extends m n = (x v : ℕ) → value_of m x ≡ Some v → value_of n x ≡ Some v
