-- The row of a filed key, whose names are numeric slots.
--     slot_number s             the number of a numeric slot
--     class_position F t        1 more than the place at which F has the value t, or 0 if it has not
--     positions_below n m F     for each number below n the position of the slot that it stands for
--     unmarked v xs             the names xs that are not v
--     blanked v x               the mark of a child, $1, for v, and $0 for any other name
--     blanked_form v f          the form f with such names
--     AreCovered f              each number of the node f is smaller than the number of its places
--     own_numbers f             the numbers at the own names and binders of the node f
--     numbered_ids f            its children, with numbers for names
--     IsKeyRow f m F row        the row has the numbers of the key f: m has a slot for each of them, and F has each slot for one of the class that is found
use Rattle.std.specs.Prelude.{◌≡◌, ℕ, zero, suc, ◌/◌, ◌<◌, List, [], ◌∷◌, map, filter, length, not, Contains, Option, None, Some, cond, nat_eq}
use Rattle.std.specs.List.{range_with_len}
use Rattle.slotted_slots.specs.Maps.{value_of}
use Rattle.slotted_slots.specs.Table.{numeric_slot}
use Rattle.slotted_nodes.specs.Form.{Form}
use Rattle.slotted_languages.specs.Outline.{child_mark}
use Rattle.slotted_model.specs.Applied.{Applied, renamed_id}
use Rattle.slotted_model_rules.specs.Goals.{own_names}
use Rattle.slotted_classes.specs.ChildIds.{child_ids}
use Rattle.slotted_rule_patterns.specs.NodeArguments.{node_arguments}
use Rattle.slotted_match_machine.specs.declared.index.IndexRow.{IndexRow}
use Rattle.slotted_match_machine.specs.Index.{OneByOne, IsIndexChild}

abbrev pub slot_number : ℕ → ℕ
slot_number s = s / 4

-- a place after one more
abbrev pub one_later : ℕ → ℕ
one_later zero = zero
one_later (suc p) = suc (suc p)

abbrev pub class_position : List (ℕ × ℕ) → ℕ → ℕ
class_position [] t = 0
class_position (p ∷ F) t = cond (nat_eq p.1 t) 1 (one_later (class_position F t))

-- of a slot, if there is one
abbrev pub position_if : List (ℕ × ℕ) → Option ℕ → ℕ
position_if F None = 0
position_if F (Some t) = class_position F t

abbrev pub unmarked : ℕ → List ℕ → List ℕ
unmarked v xs = filter (λ x. not (nat_eq x v)) xs

abbrev pub blanked : ℕ → ℕ → ℕ
blanked v x = cond (nat_eq x v) child_mark 0

abbrev pub blanked_form : ℕ → Form → Form
blanked_form v f = record f { names = map (blanked v) f.names }

abbrev pub AreCovered : Form → Type 0
AreCovered f = (x : ℕ) → Contains f.names x → slot_number x < length f.names

abbrev pub own_numbers : Form → List ℕ
own_numbers f = map slot_number (own_names (node_arguments f))

abbrev pub numbered_ids : Form → List Applied
numbered_ids f = map (renamed_id slot_number) (child_ids f)

abbrev pub positions_below : ℕ → List (ℕ × ℕ) → List (ℕ × ℕ) → List ℕ
positions_below n m F = map (λ z. position_if F (value_of m (numeric_slot z))) (range_with_len 0 n)

pub record IsKeyRow (f : Form) (m F : List (ℕ × ℕ)) (row : IndexRow) : Type 0 where
  pub count : ℕ
  pub covers : (x : ℕ) → Contains f.names x → slot_number x < count
  pub slots : row.slots.items ≡ positions_below count m F
  pub owns : row.owns.items ≡ own_numbers f
  pub children : OneByOne IsIndexChild (numbered_ids f) row.children.items
