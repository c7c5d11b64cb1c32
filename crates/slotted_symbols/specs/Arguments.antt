-- Arguments as the elements that they are written as, and the tree of their places.
--     elements args       what these arguments are written as
--     places e            how many places an element has
--     with_slot t         the tree with one more slot in front
--     tree_of es          the tree of these elements: slots in front of a child are bound in it, the others are free
--     to_child es         how many places there are up to the end of the first child
--     kinds es            which of them are slots, and which are children
--     form_over w es      the node of a word and these arguments
--     read_arguments es   the arguments that are written so, if no text is among them and if they are not too many
use Rattle.std.specs.Prelude.{ℕ, suc, List, [], ◌∷◌, length, map, Option, Some, None, option_map, Bool, true, false, not, if◌then◌else◌, nat_lt, ◌&&◌}
use Rattle.slotted_slots.specs.Maps.{keys}
use Rattle.slotted_slots.specs.Syntax.{Element, text, applied, name}
use Rattle.slotted_slots.specs.Table.{slot_limit}
use Rattle.slotted_nodes.specs.Form.{Form, Tree, leaf, own, child, bind}
use Rattle.slotted_nodes.specs.ReadFrom.{slots_of}
use Rattle.slotted_symbols.specs.declared.argument.Argument.{Argument}
use Rattle.slotted_symbols.specs.declared.argument.Argument.TheVariants.{Slot, Child}

abbrev pub element : Argument → Element
element (Slot x) = name x
element (Child a) = applied a.id.0 a.m

abbrev pub elements : List Argument → List Element
elements = map element

abbrev pub places : Element → ℕ
places (text w) = 0
places (applied i m) = length m
places (name x) = 1

-- the slot binds in the first child, around the binders that this child has already. Without a child it is free
abbrev pub with_slot : Tree → Tree
with_slot leaf = own leaf
with_slot (own r) = own (own r)
with_slot (child i ks r) = bind (child i ks leaf) r
with_slot (bind u r) = bind (bind u leaf) r

abbrev pub tree_of : List Element → Tree
tree_of [] = leaf
tree_of (text w ∷ es) = tree_of es
tree_of (applied i m ∷ es) = child i (keys m) (tree_of es)
tree_of (name x ∷ es) = with_slot (tree_of es)

abbrev pub to_child : List Element → Option ℕ
to_child [] = None
to_child (text w ∷ es) = to_child es
to_child (applied i m ∷ es) = Some (length m)
to_child (name x ∷ es) = option_map suc (to_child es)

-- what stands at each position: 0 for a slot, 1 for a child
abbrev pub kinds : List Element → List ℕ
kinds [] = []
kinds (text w ∷ es) = kinds es
kinds (applied i m ∷ es) = 1 ∷ kinds es
kinds (name x ∷ es) = 0 ∷ kinds es

-- the node of a word and these arguments. Which of them are slots is said twice, by the tree and beside the word
abbrev pub form_over : List ℕ → List Element → Form
form_over w es = record { operator = 0; payloads = w ∷ kinds es ∷ []; tree = tree_of es; names = slots_of es }

-- a text stands among the elements
abbrev pub has_text : List Element → Bool
has_text [] = false
has_text (text w ∷ es) = true
has_text (applied i m ∷ es) = has_text es
has_text (name x ∷ es) = has_text es

-- slots and children alone, fewer than slots can number
abbrev pub are_arguments : List Element → Bool
are_arguments es = nat_lt (length es) slot_limit && not (has_text es)

abbrev pub read_arguments : List Element → Option (List Element)
read_arguments es = if are_arguments es then Some es else None
