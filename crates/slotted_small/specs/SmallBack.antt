-- What a node of Small is written as reads as that node, where it was read from identifier tokens.
use Rattle.std.specs.Prelude.{◌≡◌, ℕ, ◌<◌, ◌⊎◌, Bool, true, false, cond, bytes_eq, codes, List, [], ◌∷◌, Option, Some, None, decimal, IfSome, refl}
use Rattle.std.proofs.Common.{arith, ap, sym, subst, lit<, inl, inr, ◌∙◌}
use Rattle.slotted_slots.specs.Maps.{keys}
use Rattle.slotted_slots.specs.Syntax.{Element, text, applied, name}
use Rattle.slotted_slots.specs.Table.{reads_u32}
use Rattle.slotted_nodes.specs.Equal.{cons_parts}
use Rattle.slotted_nodes.specs.Form.{Form, variant, plain, slot_form, child_form, bind_form, join_form}
use Rattle.slotted_nodes.specs.Identifier.{IsIdentifier, HasIdentifiers, HasNullIds, HasNullChildren}
use Rattle.slotted_nodes.specs.ReadsBack.{ascii_text, u32_back, number_parts}
use Rattle.slotted_small.specs.declared.small.Small.{Small}
use Rattle.slotted_small.specs.declared.small.Small.TheVariants.{Lam, App, Var, F, G, Add, Mul, Number, Word}
use Rattle.slotted_small.specs.Small.{small_form, small_shown, small_read, alone}

-- one of two answers
either : (P : Form → Type 0) (b : Bool) (o p : Option Form) → IfSome o P → IfSome p P → IfSome (cond b o p) P
either P true o p h k = h
either P false o p h k = k

-- what is neither a number nor a word
abbrev IsOperator : Form → Type 0
IsOperator f = f.operator < 7

-- elements are one text, or write an operator's node, if any
one_text_or_operator : (es : List Element) → ((bs : List ℕ) × (es ≡ text bs ∷ [])) ⊎ IfSome (small_read es) IsOperator
one_text_or_operator (text bs ∷ []) = inl (bs, refl)
one_text_or_operator (text op ∷ name x ∷ []) =
    inr (either IsOperator (bytes_eq op (codes "var")) (Some (variant 2 (slot_form x))) (cond (bytes_eq op (codes "g")) (Some (variant 4 (slot_form x))) None) (lit< tt)
    (either IsOperator (bytes_eq op (codes "g")) (Some (variant 4 (slot_form x))) None (lit< tt) tt))
one_text_or_operator (text op ∷ name x ∷ name y ∷ []) =
    inr (either IsOperator (bytes_eq op (codes "f")) (Some (variant 3 (join_form (slot_form x) (slot_form y)))) None (lit< tt) tt)
one_text_or_operator (text op ∷ name x ∷ applied i m ∷ []) =
    inr (either IsOperator (bytes_eq op (codes "lam")) (Some (variant 0 (bind_form x (child_form i m)))) None (lit< tt) tt)
one_text_or_operator (text op ∷ applied i m ∷ applied j n ∷ []) =
    let f = join_form (child_form i m) (child_form j n) in
    let mul : Option Form = cond (bytes_eq op (codes "mul")) (Some (variant 6 f)) None in
    let add_or_mul : Option Form = cond (bytes_eq op (codes "add")) (Some (variant 5 f)) mul in
    inr (either IsOperator (bytes_eq op (codes "app")) (Some (variant 1 f)) add_or_mul (lit< tt)
    (either IsOperator (bytes_eq op (codes "add")) (Some (variant 5 f)) mul (lit< tt)
    (either IsOperator (bytes_eq op (codes "mul")) (Some (variant 6 f)) None (lit< tt) tt)))
one_text_or_operator es = inr tt

-- a number or a word was read from one text
from_one_text : (es : List Element) (f : Form) → 6 < f.operator → small_read es ≡ Some f → (bs : List ℕ) × (es ≡ text bs ∷ []) ×
    (alone bs (reads_u32 bs) ≡ f)
from_one_text es f high e = elim (one_text_or_operator es) [
  | inl (bs, one) ↦ (bs, one, let e : ◌≡◌ {A = Option Form} (Some (alone bs (reads_u32 bs))) (Some f) = ap small_read (sym one) ∙ e in cc)
  | inr low ↦ absurd (let low : f.operator < 7 = subst (λ o. IfSome o IsOperator) e low in omega (arith, low, high))
]

alone_number : (bs : List ℕ) (o : Option ℕ) (n : ℕ) → alone bs o ≡ variant 7 (plain ((n ∷ []) ∷ [])) → o ≡ Some n
alone_number bs (Some m) n e = ap Some (number_parts m n (cons_parts (m ∷ []) (n ∷ []) [] [] (ap (λ f. f.payloads) e)).0)
alone_number bs None n e = absurd (omega (arith, ap (λ f. f.operator) e))

alone_word : (bs : List ℕ) (o : Option ℕ) (w : List ℕ) → alone bs o ≡ variant 8 (plain (w ∷ [])) → (o ≡ None) × (bs ≡ w)
alone_word bs (Some m) w e = absurd (omega (arith, ap (λ f. f.operator) e))
alone_word bs None w e = (refl, (cons_parts bs w [] [] (ap (λ f. f.payloads) e)).0)

-- a number or a word that was read from identifiers
number_read : (es : List Element) (n : ℕ) → HasIdentifiers es → small_read es ≡ Some (small_form (Number n)) →
    IsIdentifier (decimal n) × (reads_u32 (decimal n) ≡ Some n)
number_read es n h e =
    let one = from_one_text es (small_form (Number n)) (lit< tt) e in
    u32_back one.0 n (subst HasIdentifiers one.1 h).0 (alone_number one.0 (reads_u32 one.0) n one.2)

word_read : (es : List Element) (w : List ℕ) → HasIdentifiers es → small_read es ≡ Some (small_form (Word w)) → IsIdentifier w ×
    (reads_u32 w ≡ None)
word_read es w h e =
    let one = from_one_text es (small_form (Word w)) (lit< tt) e in
    let same = alone_word one.0 (reads_u32 one.0) w one.2 in
    (subst IsIdentifier same.1 (subst HasIdentifiers one.1 h).0, ap reads_u32 (sym same.1) ∙ same.0)

alone_null : (bs : List ℕ) (o : Option ℕ) → HasNullChildren (alone bs o)
alone_null bs None = tt
alone_null bs (Some n) = tt

-- the three laws
pub small_words : (es : List Element) (a : Small) → HasIdentifiers es → small_read es ≡ Some (small_form a) → HasIdentifiers (small_shown a)
small_words es (Lam b) h e = (ascii_text _ refl refl, tt)
small_words es (App a b) h e = (ascii_text _ refl refl, tt)
small_words es (Var x) h e = (ascii_text _ refl refl, tt)
small_words es (F x y) h e = (ascii_text _ refl refl, tt)
small_words es (G x) h e = (ascii_text _ refl refl, tt)
small_words es (Add a b) h e = (ascii_text _ refl refl, tt)
small_words es (Mul a b) h e = (ascii_text _ refl refl, tt)
small_words es (Number n) h e = ((number_read es n h e).0, tt)
small_words es (Word w) h e = ((word_read es w h e).0, tt)

pub small_back : (es : List Element) (a : Small) → HasIdentifiers es → small_read es ≡ Some (small_form a) →
    small_read (small_shown a) ≡ Some (small_form a)
small_back es (Lam b) h e = refl
small_back es (App a b) h e = refl
small_back es (Var x) h e = refl
small_back es (F x y) h e = refl
small_back es (G x) h e = refl
small_back es (Add a b) h e = refl
small_back es (Mul a b) h e = refl
small_back es (Number n) h e = ap (λ o. Some (alone (decimal n) o)) (number_read es n h e).1
small_back es (Word w) h e = ap (λ o. Some (alone w o)) (word_read es w h e).1

pub small_null : (es : List Element) → HasNullIds es → IfSome (small_read es) HasNullChildren
small_null (text bs ∷ []) h = alone_null bs (reads_u32 bs)
small_null (text op ∷ name x ∷ []) h =
    either HasNullChildren (bytes_eq op (codes "var")) (Some (variant 2 (slot_form x))) (cond (bytes_eq op (codes "g")) (Some (variant 4 (slot_form x))) None) tt
    (either HasNullChildren (bytes_eq op (codes "g")) (Some (variant 4 (slot_form x))) None tt tt)
small_null (text op ∷ name x ∷ name y ∷ []) h =
    either HasNullChildren (bytes_eq op (codes "f")) (Some (variant 3 (join_form (slot_form x) (slot_form y)))) None tt tt
small_null (text op ∷ name x ∷ applied i m ∷ []) h =
    either HasNullChildren (bytes_eq op (codes "lam")) (Some (variant 0 (bind_form x (child_form i m)))) None (h.0, ap keys h.1, tt) tt
small_null (text op ∷ applied i m ∷ applied j n ∷ []) h =
    let f = join_form (child_form i m) (child_form j n) in
    let mul : Option Form = cond (bytes_eq op (codes "mul")) (Some (variant 6 f)) None in
    let add_or_mul : Option Form = cond (bytes_eq op (codes "add")) (Some (variant 5 f)) mul in
    let both : HasNullChildren f = (h.0, ap keys h.1, (h.2.0, ap keys h.2.1, tt)) in
    either HasNullChildren (bytes_eq op (codes "app")) (Some (variant 1 f)) add_or_mul both
    (either HasNullChildren (bytes_eq op (codes "add")) (Some (variant 5 f)) mul both
    (either HasNullChildren (bytes_eq op (codes "mul")) (Some (variant 6 f)) None both tt))
small_null es h = tt
