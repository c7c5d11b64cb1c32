-- Words and their weights, in a list in which the first entry of a word counts.
--     weight_of ws w        the weight of a word: 1 if nothing is set
--     with_weight ws w n    the list with this weight for the word, in its place or at the end
--     place_of ws w         where the entry of the word stands
--     node_weight ws d      the weight of a node by its word, which is its first payload
use Rattle.std.specs.Prelude.{ℕ, suc, List, [], ◌∷◌, Option, Some, None, option_map, cond, bytes_eq, slice_index_or}
use Rattle.slotted_theory.specs.Nameless.{DTerm}

abbrev pub weight_of : List (List ℕ × ℕ) → List ℕ → ℕ
weight_of [] w = 1
weight_of (e ∷ ws) w = cond (bytes_eq e.0 w) e.1 (weight_of ws w)

abbrev pub with_weight : List (List ℕ × ℕ) → List ℕ → ℕ → List (List ℕ × ℕ)
with_weight [] w n = (w, n) ∷ []
with_weight (e ∷ ws) w n = cond (bytes_eq e.0 w) ((e.0, n) ∷ ws) (e ∷ with_weight ws w n)

abbrev pub place_of : List (List ℕ × ℕ) → List ℕ → Option ℕ
place_of [] w = None
place_of (e ∷ ws) w = cond (bytes_eq e.0 w) (Some 0) (option_map suc (place_of ws w))

abbrev pub node_weight : List (List ℕ × ℕ) → DTerm → ℕ
node_weight ws d = weight_of ws (slice_index_or d.payloads 0 [])
