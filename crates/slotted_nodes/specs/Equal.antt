-- The laws of slots, children, binders and payloads: how many names and children they have, and that they are equal
-- exactly if their forms are.
use Rattle.std.specs.Prelude.{◌≡◌, ℕ, ◌<◌, List, [], ◌∷◌, length, Bool, refl, IsTrue, ◌↔◌, ◌&&◌, nat_eq}
use Rattle.std.proofs.Common.{ap, ◌∙◌, rules, arith}
use Rattle.std.proofs.lemmas.List.{length-map, append-nil}
use Rattle.std.specs.Cmp.Lexicographic.{pointwise}
use Rattle.slotted_slots.specs.Maps.{keys, values}
use Rattle.slotted_slots.specs.Table.{slot_limit}
use Rattle.slotted_slots.specs.declared.types.AppliedId.{AppliedId}
use Rattle.std.proofs.lemmas.Slice.Eq.{slice_eq-Decides}
use Rattle.std.specs.Bool.{Decides}
use Rattle.std.specs.Cmp.{unsigned_Decides}
use Rattle.slotted_nodes.specs.Form.{Form, Tree, child, bind, scopes, children, plain, slot_form, child_form, bind_form}

-- a list of pairs is its keys and its values
pub pairs_same : (m n : List (ℕ × ℕ)) → keys m ≡ keys n → values m ≡ values n → m ≡ n
pairs_same [] [] h i = refl
pairs_same [] (q ∷ n) h i = cc
pairs_same (p ∷ m) [] h i = cc
pairs_same (p ∷ m) (q ∷ n) h i = grind (arith, pairs_same m n)

-- a child, and a binder over what has this law, have as many names as places
pub child_form_fits : (m : List (ℕ × ℕ)) → length (child_form 0 m).names ≡ length (scopes (child_form 0 m).tree)
child_form_fits m = simp (append-nil, length-map) refl

pub bind_form_fits : (x : ℕ) (f : Form) → length f.names ≡ length (scopes f.tree) →
    length (bind_form x f).names ≡ length (scopes (bind_form x f).tree)
bind_form_fits x f h = grind (arith, append-nil)

-- a binder has the children of what stands under it
pub bind_form_few : (x : ℕ) (f : Form) → length (children f.tree) < slot_limit → length (children (bind_form x f).tree) < slot_limit
bind_form_few x f h = grind (arith, append-nil)

-- forms with equal parts are equal
pub form_ext : (f g : Form) → f.operator ≡ g.operator → f.payloads ≡ g.payloads → f.tree ≡ g.tree → f.names ≡ g.names → f ≡ g
form_ext f g a b c d =
    ap (λ o. let r : Form = record { operator = o; payloads = f.payloads; tree = f.tree; names = f.names } in r) a
    ∙ ap (λ o. let r : Form = record { operator = g.operator; payloads = o; tree = f.tree; names = f.names } in r) b
    ∙ ap (λ o. let r : Form = record { operator = g.operator; payloads = g.payloads; tree = o; names = f.names } in r) c
    ∙ ap (λ o. let r : Form = record { operator = g.operator; payloads = g.payloads; tree = g.tree; names = o } in r) d

-- the parts of equal trees and of equal lists
pub tree_child : (i j : ℕ) (ks ls : List ℕ) (r t : Tree) → child i ks r ≡ child j ls t → (i ≡ j) × (ks ≡ ls) × (r ≡ t)
tree_child i j ks ls r t h = (cc, cc, cc)

pub tree_bind : (u v r t : Tree) → bind u r ≡ bind v t → (u ≡ v) × (r ≡ t)
tree_bind u v r t h = (cc, cc)

pub cons_parts : {A : Type 0} (x y : A) (xs ys : List A) → ◌≡◌ {A = List A} (x ∷ xs) (y ∷ ys) → (x ≡ y) × (xs ≡ ys)
cons_parts x y xs ys h = (cc, cc)

pair_same : (p q : ℕ × ℕ) → Decides (nat_eq p.0 q.0 && nat_eq p.1 q.1) (p ≡ q)
pair_same p q = search rules

-- maps are equal exactly if their lists of pairs are
pub map_same : (m n : List (ℕ × ℕ)) → IsTrue (pointwise (λ p q. nat_eq p.0 q.0 && nat_eq p.1 q.1) m n) ↔ m ≡ n
map_same m n = search (rules, slice_eq-Decides pair_same m n (pointwise (λ p q. nat_eq p.0 q.0 && nat_eq p.1 q.1) m n) refl)

-- two tests in one
pub and_same : (e : Bool) (x y : ℕ) {P : Type 0} → (IsTrue e ↔ P) → IsTrue (nat_eq x y && e) ↔ ((x ≡ y) × P)
and_same e x y h = search rules

-- children, and binders over what has this law, are equal exactly if their forms are
pub applied_id_same : (a b : AppliedId) →
    IsTrue (nat_eq a.id.0 b.id.0 && pointwise (λ p q. nat_eq p.0 q.0 && nat_eq p.1 q.1) a.m b.m) ↔
    child_form a.id.0 a.m ≡ child_form b.id.0 b.m
applied_id_same a b =
    let s : IsTrue (nat_eq a.id.0 b.id.0 && pointwise (λ p q. nat_eq p.0 q.0 && nat_eq p.1 q.1) a.m b.m) ↔
    ((a.id.0 ≡ b.id.0) × (a.m ≡ b.m)) = and_same _ _ _ (map_same a.m b.m) in (
      λ i. let p = s.0 i in cc,
      λ e. s.1 (
          let t = tree_child _ _ _ _ _ _ (ap (λ f. f.tree) e) in
          (t.0, pairs_same _ _ t.1 (ap (λ f. f.names) e))),
    )

pub bind_same : (e : Bool) (x y : ℕ) (f g : Form) → (IsTrue e ↔ f ≡ g) → IsTrue (nat_eq x y && e) ↔ bind_form x f ≡ bind_form y g
bind_same e x y f g h =
    let s : IsTrue (nat_eq x y && e) ↔ ((x ≡ y) × (f ≡ g)) = and_same e x y h in (
      λ i. let p = s.0 i in cc,
      λ i. s.1 (
          let n = cons_parts _ _ _ _ (ap (λ f. f.names) i) in
          let t = tree_bind _ _ _ _ (ap (λ f. f.tree) i) in
          (n.0, form_ext f g (ap (λ f. f.operator) i) (ap (λ f. f.payloads) i) t.0 n.1)),
    )

-- the same of numbers
number_equal : (m n : ℕ) → IsTrue (nat_eq m n) ↔ m ≡ n
number_equal m n = search rules

-- the same of slots, numbers, words and payloads
pub slot_same : (x y : ℕ) → IsTrue (nat_eq x y) ↔ slot_form x ≡ slot_form y
slot_same x y = (
  λ h. ap slot_form ((number_equal x y).0 h),
  λ e. (number_equal x y).1 (cons_parts x y [] [] (ap (λ f. f.names) e)).0,
)

pub number_told : (m n : ℕ) → IsTrue (nat_eq m n) ↔ ◌≡◌ {A = List ℕ} (m ∷ []) (n ∷ [])
number_told m n = (λ h. let e = (number_equal m n).0 h in cc, λ e. (number_equal m n).1 (cons_parts m n [] [] e).0)

pub bytes_told : (m n : List ℕ) → IsTrue (pointwise nat_eq m n) ↔ m ≡ n
bytes_told m n = search (rules, slice_eq-Decides unsigned_Decides m n (pointwise nat_eq m n) refl)

pub plain_same : (e : Bool) (v w : List ℕ) → (IsTrue e ↔ v ≡ w) → IsTrue e ↔ plain (v ∷ []) ≡ plain (w ∷ [])
plain_same e v w h = (λ i. let p = h.0 i in cc, λ i. h.1 (let p : ◌≡◌ {A = List (List ℕ)} (v ∷ []) (w ∷ []) = ap (λ f. f.payloads) i in cc))
