-- What is read from a list of elements: its slots are slots of the elements, and its children are as many as the applied
-- ids among them. This holds of slots, children, binders and payloads, and of two fields, a variant and an operator's
-- text it follows from that of their parts.
use Rattle.std.specs.Prelude.{◌≡◌, ℕ, suc, ◌+◌, List, [], ◌∷◌, ◌++◌, length, Bool, true, false, ◌||◌, ◌==◌, IsTrue, Option, Some, None, option_map, IfSome, refl}
use Rattle.std.proofs.Common.{ap, ◌∙◌, sym, subst, arith, append_assoc, length-append}
use Rattle.std.proofs.lemmas.List.{append-nil}
use Rattle.std.proofs.lemmas.List.Folds.{list_any-append}
use Rattle.slotted_slots.specs.Maps.{is_among, values}
use Rattle.slotted_slots.specs.Syntax.{Element, text, applied, name}
use Rattle.slotted_nodes.specs.Form.{Form, children, plain, slot_form, child_form, bind_form, join_form, variant}
use Rattle.slotted_nodes.specs.Joined.{children-join}
use Rattle.slotted_nodes.specs.Written.{read_slot, read_child, read_bind, read_text}

-- the slots of elements: a text has none, an applied id has the values of its map
abbrev pub slots_of : List Element → List ℕ
slots_of [] = []
slots_of (text bs ∷ es) = slots_of es
slots_of (applied i m ∷ es) = values m ++ slots_of es
slots_of (name x ∷ es) = x ∷ slots_of es

-- how many of the elements are applied ids
abbrev pub applied_count : List Element → ℕ
applied_count [] = 0
applied_count (text bs ∷ es) = applied_count es
applied_count (applied i m ∷ es) = suc (applied_count es)
applied_count (name x ∷ es) = applied_count es

-- no slot but those of the elements, and one child for each applied id among them
pub record IsReadFrom (es : List Element) (f : Form) : Type 0 where
  pub slots : (x : ℕ) → IsTrue (is_among x f.names) → IsTrue (is_among x (slots_of es))
  pub count : length (children f.tree) ≡ applied_count es

-- tests that follow from one another, part by part
or_grows : (a b c d : Bool) → (IsTrue a → IsTrue c) → (IsTrue b → IsTrue d) → IsTrue (a || b) → IsTrue (c || d)
or_grows true b true d f g h = refl
or_grows true b false d f g h = absurd (let e = f refl in cc)
or_grows false b true d f g h = refl
or_grows false b false d f g h = g h

-- two lists of elements have the slots and the applied ids of both
pub slots_of-append : (es ds : List Element) → slots_of (es ++ ds) ≡ slots_of es ++ slots_of ds
slots_of-append [] ds = refl
slots_of-append (text bs ∷ es) ds = slots_of-append es ds
slots_of-append (applied i m ∷ es) ds = ap (λ xs. values m ++ xs) (slots_of-append es ds) ∙ sym (append_assoc (values m) (slots_of es) (slots_of ds))
slots_of-append (name x ∷ es) ds = ap (λ xs. x ∷ xs) (slots_of-append es ds)

pub applied_count-append : (es ds : List Element) → applied_count (es ++ ds) ≡ applied_count es + applied_count ds
applied_count-append [] ds = omega arith
applied_count-append (text bs ∷ es) ds = applied_count-append es ds
applied_count-append (applied i m ∷ es) ds = omega (arith, applied_count-append es ds)
applied_count-append (name x ∷ es) ds = applied_count-append es ds

-- one slot, and one child
pub slot_read : (x : ℕ) → IsReadFrom (name x ∷ []) (slot_form x)
slot_read x = record { slots = λ y h. h; count = refl }

pub child_read : (i : ℕ) (m : List (ℕ × ℕ)) → IsReadFrom (applied i m ∷ []) (child_form i m)
child_read i m = record { slots = λ y h. subst (λ xs. IsTrue (is_among y xs)) (sym (append-nil (values m))) h; count = refl }

-- a binder after its slot
pub bind_read : (x : ℕ) (es : List Element) (f : Form) → IsReadFrom es f → IsReadFrom (name x ∷ es) (bind_form x f)
bind_read x es f h = record {
  slots = λ y. or_grows (x == y) (is_among y f.names) (x == y) (is_among y (slots_of es)) (λ e. e) (h.slots y);
  count = ap length (append-nil (children f.tree)) ∙ h.count;
}

-- payloads, which have neither slots nor children
pub plain_read : (bs : List ℕ) (ps : List (List ℕ)) → IsReadFrom (text bs ∷ []) (plain ps)
plain_read bs ps = record { slots = λ y h. h; count = refl }

-- two fields, each after the other
pub join_read : (es ds : List Element) (f g : Form) → IsReadFrom es f → IsReadFrom ds g → IsReadFrom (es ++ ds) (join_form f g)
join_read es ds f g h k = record {
  slots = λ y i.
      subst (λ xs. IsTrue (is_among y xs)) (sym (slots_of-append es ds))
      (subst IsTrue (sym (list_any-append (λ z. z == y) (slots_of es) (slots_of ds)))
      (or_grows (is_among y f.names) (is_among y g.names) (is_among y (slots_of es)) (is_among y (slots_of ds)) (h.slots y) (k.slots y)
      (subst IsTrue (list_any-append (λ z. z == y) f.names g.names) i)));
  count = omega (arith, ap length (children-join f.tree g.tree), length-append (children f.tree) (children g.tree), h.count, k.count, applied_count-append es ds);
}

-- a variant, and what follows the text of an operator
pub variant_read : (k : ℕ) (es : List Element) (f : Form) → IsReadFrom es f → IsReadFrom es (variant k f)
variant_read k es f h = record { slots = h.slots; count = h.count }

pub operator_read : (bs : List ℕ) (es : List Element) (f : Form) → IsReadFrom es f → IsReadFrom (text bs ∷ es) f
operator_read bs es f h = record { slots = h.slots; count = h.count }

-- the laws of slots, children, binders and payloads
pub slot_faithful : (es : List Element) → IfSome (read_slot es) (IsReadFrom es)
slot_faithful (name x ∷ []) = slot_read x
slot_faithful _ = tt

pub child_faithful : (es : List Element) → IfSome (read_child es) (IsReadFrom es)
child_faithful (applied i m ∷ []) = child_read i m
child_faithful _ = tt

bind_faithful_of : (x : ℕ) (es : List Element) (o : Option Form) → IfSome o (IsReadFrom es) →
    IfSome (option_map (bind_form x) o) (IsReadFrom (name x ∷ es))
bind_faithful_of x es None h = tt
bind_faithful_of x es (Some f) h = bind_read x es f h

pub bind_faithful : (read : List Element → Option Form) → ((es : List Element) → IfSome (read es) (IsReadFrom es)) →
    (es : List Element) → IfSome (read_bind read es) (IsReadFrom es)
bind_faithful read law (name x ∷ es) = bind_faithful_of x es (read es) (law es)
bind_faithful read law _ = tt

text_faithful_of : {A : Type 0} (word : A → List ℕ) (bs : List ℕ) (o : Option A) →
    IfSome (option_map (λ a. plain (word a ∷ [])) o) (IsReadFrom (text bs ∷ []))
text_faithful_of word bs None = tt
text_faithful_of word bs (Some a) = plain_read bs (word a ∷ [])

pub text_faithful : {A : Type 0} (word : A → List ℕ) (reads : List ℕ → Option A) (es : List Element) →
    IfSome (option_map (λ a. plain (word a ∷ [])) (read_text reads es)) (IsReadFrom es)
text_faithful word reads (text bs ∷ []) = text_faithful_of word bs (reads bs)
text_faithful word reads _ = tt
