-- What the parts of nodes are written as, and what lists of elements write.
use Rattle.std.specs.Prelude.{ℕ, List, [], ◌∷◌, Option, Some, None, option_map}
use Rattle.slotted_slots.specs.Syntax.{Element, text, applied, name}
use Rattle.slotted_nodes.specs.Form.{Form, slot_form, child_form, bind_form}

-- one slot
abbrev pub read_slot : List Element → Option Form
read_slot (name x ∷ []) = Some (slot_form x)
read_slot _ = None

-- one child
abbrev pub read_child : List Element → Option Form
read_child (applied i m ∷ []) = Some (child_form i m)
read_child _ = None

-- a slot, and then what stands under it as a binder
abbrev pub read_bind : (List Element → Option Form) → List Element → Option Form
read_bind read (name x ∷ es) = option_map (bind_form x) (read es)
read_bind read _ = None

-- what one text alone reads as
abbrev pub read_text : {A : Type 0} → (List ℕ → Option A) → List Element → Option A
read_text reads (text bs ∷ []) = reads bs
read_text reads _ = None
