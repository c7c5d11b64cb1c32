-- What is read as a node of Small has the slots and the children that stand in the elements.
use Rattle.std.specs.Prelude.{ℕ, List, [], ◌∷◌, Bool, true, false, Option, Some, None, cond, IfSome, codes, bytes_eq}
use Rattle.slotted_slots.specs.Syntax.{Element, text, applied, name}
use Rattle.slotted_slots.specs.Table.{reads_u32}
use Rattle.slotted_nodes.specs.Form.{Form, variant, plain, slot_form, child_form, bind_form, join_form}
use Rattle.slotted_nodes.specs.ReadFrom.{IsReadFrom, slot_read, child_read, bind_read, plain_read, join_read, variant_read, operator_read}
use Rattle.slotted_small.specs.Small.{small_read, alone}

-- one of two answers
either : (b : Bool) (o p : Option Form) (es : List Element) → IfSome o (IsReadFrom es) → IfSome p (IsReadFrom es) →
    IfSome (cond b o p) (IsReadFrom es)
either true o p es h k = h
either false o p es h k = k

-- a variant after the text of its operator
after_operator : (k : ℕ) (op : List ℕ) (es : List Element) (f : Form) → IsReadFrom es f → IsReadFrom (text op ∷ es) (variant k f)
after_operator k op es f h = operator_read op es (variant k f) (variant_read k es f h)

alone_read : (bs : List ℕ) (o : Option ℕ) → IsReadFrom (text bs ∷ []) (alone bs o)
alone_read bs (Some n) = variant_read 7 (text bs ∷ []) (plain ((n ∷ []) ∷ [])) (plain_read bs ((n ∷ []) ∷ []))
alone_read bs None = variant_read 8 (text bs ∷ []) (plain (bs ∷ [])) (plain_read bs (bs ∷ []))

over_slot_read : (k : ℕ) (op : List ℕ) (x : ℕ) → IsReadFrom (text op ∷ name x ∷ []) (variant k (slot_form x))
over_slot_read k op x = after_operator k op (name x ∷ []) (slot_form x) (slot_read x)

over_slots_read : (k : ℕ) (op : List ℕ) (x y : ℕ) →
    IsReadFrom (text op ∷ name x ∷ name y ∷ []) (variant k (join_form (slot_form x) (slot_form y)))
over_slots_read k op x y =
    after_operator k op (name x ∷ name y ∷ []) (join_form (slot_form x) (slot_form y))
    (join_read (name x ∷ []) (name y ∷ []) (slot_form x) (slot_form y) (slot_read x) (slot_read y))

over_binder_read : (k : ℕ) (op : List ℕ) (x i : ℕ) (m : List (ℕ × ℕ)) →
    IsReadFrom (text op ∷ name x ∷ applied i m ∷ []) (variant k (bind_form x (child_form i m)))
over_binder_read k op x i m =
    after_operator k op (name x ∷ applied i m ∷ []) (bind_form x (child_form i m)) (bind_read x (applied i m ∷ []) (child_form i m) (child_read i m))

over_children_read : (k : ℕ) (op : List ℕ) (i : ℕ) (m : List (ℕ × ℕ)) (j : ℕ) (n : List (ℕ × ℕ)) →
    IsReadFrom (text op ∷ applied i m ∷ applied j n ∷ []) (variant k (join_form (child_form i m) (child_form j n)))
over_children_read k op i m j n =
    after_operator k op (applied i m ∷ applied j n ∷ []) (join_form (child_form i m) (child_form j n))
    (join_read (applied i m ∷ []) (applied j n ∷ []) (child_form i m) (child_form j n) (child_read i m) (child_read j n))

pub small_faithful : (es : List Element) → IfSome (small_read es) (IsReadFrom es)
small_faithful (text bs ∷ []) = alone_read bs (reads_u32 bs)
small_faithful (text op ∷ name x ∷ []) =
    let es = text op ∷ name x ∷ [] in
    let g : Option Form = cond (bytes_eq op (codes "g")) (Some (variant 4 (slot_form x))) None in
    either (bytes_eq op (codes "var")) (Some (variant 2 (slot_form x))) g es (over_slot_read 2 op x)
    (either (bytes_eq op (codes "g")) (Some (variant 4 (slot_form x))) None es (over_slot_read 4 op x) tt)
small_faithful (text op ∷ name x ∷ name y ∷ []) =
    either (bytes_eq op (codes "f")) (Some (variant 3 (join_form (slot_form x) (slot_form y)))) None (text op ∷ name x ∷ name y ∷ []) (over_slots_read 3 op x y) tt
small_faithful (text op ∷ name x ∷ applied i m ∷ []) =
    either (bytes_eq op (codes "lam")) (Some (variant 0 (bind_form x (child_form i m)))) None (text op ∷ name x ∷ applied i m ∷ []) (over_binder_read 0 op x i m) tt
small_faithful (text op ∷ applied i m ∷ applied j n ∷ []) =
    let es = text op ∷ applied i m ∷ applied j n ∷ [] in
    let f = join_form (child_form i m) (child_form j n) in
    let mul : Option Form = cond (bytes_eq op (codes "mul")) (Some (variant 6 f)) None in
    let add_or_mul : Option Form = cond (bytes_eq op (codes "add")) (Some (variant 5 f)) mul in
    either (bytes_eq op (codes "app")) (Some (variant 1 f)) add_or_mul es (over_children_read 1 op i m j n)
    (either (bytes_eq op (codes "add")) (Some (variant 5 f)) mul es (over_children_read 5 op i m j n)
    (either (bytes_eq op (codes "mul")) (Some (variant 6 f)) None es (over_children_read 6 op i m j n) tt))
small_faithful _ = tt
