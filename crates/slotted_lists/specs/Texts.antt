-- How a text is split at a word.
--     rest_behind w bs   what follows the word in front of a text
--     parts_around w bs  what stands before the first place where the word stands, and what follows the word there
use Rattle.std.specs.Prelude.{ℕ, List, [], ◌∷◌, Option, Some, None, option_map, if◌then◌else◌, ◌==◌}

abbrev pub rest_behind : List ℕ → List ℕ → Option (List ℕ)
rest_behind [] bs = Some bs
rest_behind (w ∷ ws) [] = None
rest_behind (w ∷ ws) (b ∷ bs) = if w == b then rest_behind ws bs else None

-- the parts around a word that stands in front, or else these ones
abbrev pub in_front_or : Option (List ℕ) → Option (List ℕ × List ℕ) → Option (List ℕ × List ℕ)
in_front_or (Some rest) later = Some ([], rest)
in_front_or None later = later

abbrev pub parts_around : List ℕ → List ℕ → Option (List ℕ × List ℕ)
parts_around w [] = in_front_or (rest_behind w []) None
parts_around w (b ∷ bs) = in_front_or (rest_behind w (b ∷ bs)) (option_map (λ p. (b ∷ p.0, p.1)) (parts_around w bs))
