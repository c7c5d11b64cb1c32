-- Maps of names that a new class and an answer take, and the names in a canonical node.
use Rattle.std.specs.Prelude.{◌≡◌, ◌⊎◌, ℕ, zero, suc, List, [], ◌∷◌, map, unwrap_or, Contains}
use Rattle.std.specs.List.{zip}
use Rattle.slotted_slots.specs.Maps.{value_of, with_pair, values}
use Rattle.slotted_slots.specs.Table.{fresh_slot, numeric_slot}
use Rattle.slotted_nodes.specs.Form.{Form}
use Rattle.slotted_languages.specs.NodeTerm.{nameless_node}
use Rattle.slotted_languages.specs.Shape.{with_names}
use Rattle.slotted_model.specs.Ascending.{names}

-- pairs put into a map, one after another
abbrev pub with_pairs : List (ℕ × ℕ) → List (ℕ × ℕ) → List (ℕ × ℕ)
with_pairs m [] = m
with_pairs m (p ∷ ps) = with_pairs (with_pair m p.0 p.1) ps

-- the map from the values of m to those of n, place by place
abbrev pub between : List (ℕ × ℕ) → List (ℕ × ℕ) → List (ℕ × ℕ)
between m n = with_pairs [] (zip (values m) (values n))

-- as many fresh slots, from an index on
abbrev pub fresh_slots : ℕ → ℕ → List ℕ
fresh_slots c zero = []
fresh_slots c (suc n) = fresh_slot c ∷ fresh_slots (suc c) n

-- the value at a key, and each other number itself
abbrev pub put : List (ℕ × ℕ) → ℕ → ℕ
put m x = unwrap_or (value_of m x) x

-- the node with the values of m in the place of its keys
abbrev pub with_put : List (ℕ × ℕ) → Form → Form
with_put m f = with_names f (map (put m) f.names)

-- the slot is numeric
abbrev pub IsNumeric : ℕ → Type 0
IsNumeric x = (n : ℕ) × (x ≡ numeric_slot n)

-- each name at a place is a free one, or the number of a binder
abbrev pub HasNumberedBinders : Form → Type 0
HasNumberedBinders f = (x : ℕ) → Contains f.names x → Contains (names (nameless_node f)) x ⊎ IsNumeric x
