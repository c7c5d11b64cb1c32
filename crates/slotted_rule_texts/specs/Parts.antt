-- How a text is split at a word.
--     rest_behind w bs   what follows the word in front of a text
--     parts_around w bs  what stands before the first place where the word stands, and what follows the word there
--     pieces w bs        what stands between the places where the word stands, one found behind the other from the left
use Rattle.std.specs.Prelude.{ℕ, zero, suc, length, drop, List, [], ◌∷◌, Option, Some, None}
pub use Rattle.slotted_lists.specs.Texts.{rest_behind, in_front_or, parts_around}

-- a byte more in front of the first piece
abbrev pub with_byte : ℕ → List (List ℕ) → List (List ℕ)
with_byte b [] = (b ∷ []) ∷ []
with_byte b (p ∷ ps) = (b ∷ p) ∷ ps

-- the pieces of a text that begins with a word, if it does, or else the others
abbrev pub cut_or : Option (List ℕ) → List (List ℕ) → List (List ℕ) → List (List ℕ)
cut_or (Some _) cut later = [] ∷ cut
cut_or None cut later = later

-- the pieces of a text without its first n bytes
abbrev pub pieces_behind : List ℕ → ℕ → List ℕ → List (List ℕ)
pieces_behind w n [] = [] ∷ []
pieces_behind w (suc n) (b ∷ bs) = pieces_behind w n bs
pieces_behind w zero (b ∷ bs) =
    cut_or (rest_behind w (b ∷ bs)) (pieces_behind w (length (drop 1 w)) bs) (with_byte b (pieces_behind w zero bs))

abbrev pub pieces : List ℕ → List ℕ → List (List ℕ)
pieces w bs = pieces_behind w 0 bs
