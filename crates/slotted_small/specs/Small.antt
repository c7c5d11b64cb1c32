-- The language Small: what its nodes are, what they are written as, and what is read as them.
use Rattle.std.specs.Prelude.{ℕ, List, [], ◌∷◌, Option, Some, None, if◌then◌else◌, codes, decimal, bytes_eq}
use Rattle.slotted_slots.specs.Syntax.{Element, text, applied, name}
use Rattle.slotted_nodes.specs.Form.{Form, variant, plain, slot_form, child_form, bind_form, join_form}
use Rattle.slotted_slots.specs.Table.{reads_u32}
use Rattle.slotted_slots.specs.declared.types.AppliedId.{AppliedId}
use Rattle.slotted_small.specs.declared.small.Small.{Small}
use Rattle.slotted_small.specs.declared.small.Small.TheVariants.{Lam, App, Var, F, G, Add, Mul, Number, Word}

-- the variants in the order of their operators
abbrev pub small_form : Small → Form
small_form (Lam b) = variant 0 (bind_form b.slot (child_form b.elem.id.0 b.elem.m))
small_form (App a b) = variant 1 (join_form (child_form a.id.0 a.m) (child_form b.id.0 b.m))
small_form (Var x) = variant 2 (slot_form x)
small_form (F x y) = variant 3 (join_form (slot_form x) (slot_form y))
small_form (G x) = variant 4 (slot_form x)
small_form (Add a b) = variant 5 (join_form (child_form a.id.0 a.m) (child_form b.id.0 b.m))
small_form (Mul a b) = variant 6 (join_form (child_form a.id.0 a.m) (child_form b.id.0 b.m))
small_form (Number n) = variant 7 (plain ((n ∷ []) ∷ []))
small_form (Word w) = variant 8 (plain (w ∷ []))

-- a child as a form and as an element
abbrev pub id_form : AppliedId → Form
id_form a = child_form a.id.0 a.m

abbrev pub id_element : AppliedId → Element
id_element a = applied a.id.0 a.m

-- what the nodes are written as
abbrev pub small_shown : Small → List Element
small_shown (Lam b) = text (codes "lam") ∷ name b.slot ∷ applied b.elem.id.0 b.elem.m ∷ []
small_shown (App a b) = text (codes "app") ∷ applied a.id.0 a.m ∷ applied b.id.0 b.m ∷ []
small_shown (Var x) = text (codes "var") ∷ name x ∷ []
small_shown (F x y) = text (codes "f") ∷ name x ∷ name y ∷ []
small_shown (G x) = text (codes "g") ∷ name x ∷ []
small_shown (Add a b) = text (codes "add") ∷ applied a.id.0 a.m ∷ applied b.id.0 b.m ∷ []
small_shown (Mul a b) = text (codes "mul") ∷ applied a.id.0 a.m ∷ applied b.id.0 b.m ∷ []
small_shown (Number n) = text (decimal n) ∷ []
small_shown (Word w) = text w ∷ []

-- a text alone: a number where it writes one, and a word otherwise
abbrev pub alone : List ℕ → Option ℕ → Form
alone bs (Some n) = variant 7 (plain ((n ∷ []) ∷ []))
alone bs None = variant 8 (plain (bs ∷ []))

-- the nodes that a text and one slot write
abbrev pub over_slot : List ℕ → ℕ → Option Form
over_slot op x =
    if bytes_eq op (codes "var") then Some (variant 2 (slot_form x))
    else (if bytes_eq op (codes "g") then Some (variant 4 (slot_form x)) else None)

-- the nodes that a text and two slots write
abbrev pub over_slots : List ℕ → ℕ → ℕ → Option Form
over_slots op x y = if bytes_eq op (codes "f") then Some (variant 3 (join_form (slot_form x) (slot_form y))) else None

-- the nodes that a text, a slot and a child write
abbrev pub over_binder : List ℕ → ℕ → Form → Option Form
over_binder op x f = if bytes_eq op (codes "lam") then Some (variant 0 (bind_form x f)) else None

-- the nodes that a text and two children write
abbrev pub over_children : List ℕ → Form → Form → Option Form
over_children op f g =
    if bytes_eq op (codes "app") then Some (variant 1 (join_form f g))
    else (if bytes_eq op (codes "add") then Some (variant 5 (join_form f g))
    else (if bytes_eq op (codes "mul") then Some (variant 6 (join_form f g)) else None))

-- what the lists of elements write
abbrev pub small_read : List Element → Option Form
small_read (text bs ∷ []) = Some (alone bs (reads_u32 bs))
small_read (text op ∷ name x ∷ []) = over_slot op x
small_read (text op ∷ name x ∷ name y ∷ []) = over_slots op x y
small_read (text op ∷ name x ∷ applied i m ∷ []) = over_binder op x (child_form i m)
small_read (text op ∷ applied i m ∷ applied j n ∷ []) = over_children op (child_form i m) (child_form j n)
small_read _ = None
