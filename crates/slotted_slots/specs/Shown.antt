-- What maps and applied ids print.
use Rattle.std.specs.Prelude.{ℕ, List, [], ◌∷◌, ◌++◌, codes, decimal}
use Rattle.slotted_slots.specs.Table.{Table, shown_slot}

-- the pairs of a map, with a text before the first and a comma before each other
abbrev pub shown_pairs : Table → List ℕ → List (ℕ × ℕ) → List ℕ
shown_pairs t before [] = []
shown_pairs t before (p ∷ m) = before ++ (shown_slot t p.0 ++ (codes " -> " ++ (shown_slot t p.1 ++ shown_pairs t (codes ", ") m)))

-- a map in square brackets
unfoldable pub shown_map : Table → List (ℕ × ℕ) → List ℕ
shown_map t m = codes "[" ++ (shown_pairs t [] m ++ codes "]")

-- an applied id: its number and its map
abbrev pub shown_applied : Table → ℕ → List (ℕ × ℕ) → List ℕ
shown_applied t id m = codes "id" ++ (decimal id ++ shown_map t m)
