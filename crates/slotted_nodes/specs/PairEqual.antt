-- The laws of a node with two fields, from those of its fields, and of a variant, from that of what it holds.
use Rattle.std.specs.Prelude.{◌≡◌, ℕ, suc, length, refl, Bool, true, false, IsTrue, ◌↔◌, ◌&&◌}
use Rattle.std.proofs.Common.{arith, ap, sym, ◌∙◌, length-append}
use Rattle.slotted_lists.proofs.Contained.{append_parts}
use Rattle.slotted_nodes.specs.Form.{Form, Tree, leaf, own, child, bind, join, scopes, variant, join_form}
use Rattle.slotted_nodes.specs.Joined.{scopes-join}
use Rattle.slotted_nodes.specs.Equal.{form_ext, tree_child, tree_bind}

-- how many slots, children and binders stand side by side
abbrev pub side_by_side : Tree → ℕ
side_by_side leaf = 0
side_by_side (own r) = suc (side_by_side r)
side_by_side (child i ks r) = suc (side_by_side r)
side_by_side (bind u r) = suc (side_by_side r)

-- forms of one kind of field, as of two children: a node's fields are told apart by this
pub record AreAlike (f g : Form) : Type 0 where
  pub same_operator : f.operator ≡ g.operator
  pub as_many_payloads : length f.payloads ≡ length g.payloads
  pub as_many_arguments : side_by_side f.tree ≡ side_by_side g.tree

-- trees that begin with trees of as many arguments
join_parts : (a b c d : Tree) → side_by_side a ≡ side_by_side c → join a b ≡ join c d → (a ≡ c) × (b ≡ d)
join_parts leaf b leaf d n h = (refl, h)
join_parts leaf b (own s) d n h = absurd (omega (arith, n))
join_parts leaf b (child j ls s) d n h = absurd (omega (arith, n))
join_parts leaf b (bind v s) d n h = absurd (omega (arith, n))
join_parts (own r) b leaf d n h = absurd (omega (arith, n))
join_parts (child i ks r) b leaf d n h = absurd (omega (arith, n))
join_parts (bind u r) b leaf d n h = absurd (omega (arith, n))
join_parts (own r) b (own s) d n h =
    let e : join r b ≡ join s d = cc in
    let q = join_parts r b s d (omega (arith, n)) e in
    (ap own q.0, q.1)
join_parts (child i ks r) b (child j ls s) d n h =
    let t = tree_child i j ks ls (join r b) (join s d) h in
    let q = join_parts r b s d (omega (arith, n)) t.2 in
    (let x = t.0 in let y = t.1 in let z = q.0 in cc, q.1)
join_parts (bind u r) b (bind v s) d n h =
    let t = tree_bind u v (join r b) (join s d) h in
    let q = join_parts r b s d (omega (arith, n)) t.1 in
    (let x = t.0 in let z = q.0 in cc, q.1)
join_parts a b c d n h = absurd (cc)

-- two fields have as many names as places
pub join_form_fits : (f g : Form) → length f.names ≡ length (scopes f.tree) → length g.names ≡ length (scopes g.tree) →
    length (join_form f g).names ≡ length (scopes (join_form f g).tree)
join_form_fits f g a b =
    rw (scopes-join f.tree g.tree) (omega (arith, a, b, length-append f.names g.names, length-append (scopes f.tree) (scopes g.tree)))

join_form_parts : (f g h k : Form) → length f.names ≡ length (scopes f.tree) → length h.names ≡ length (scopes h.tree) →
    AreAlike f h → AreAlike g k → join_form f g ≡ join_form h k → (f ≡ h) × (g ≡ k)
join_form_parts f g h k a b left right e =
    let t = join_parts f.tree g.tree h.tree k.tree left.as_many_arguments (ap (λ x. x.tree) e) in
    let p = append_parts f.payloads h.payloads g.payloads k.payloads left.as_many_payloads (ap (λ x. x.payloads) e) in
    let n = append_parts f.names h.names g.names k.names (a ∙ ap (λ u. length (scopes u)) t.0 ∙ sym b) (ap (λ x. x.names) e) in
    (form_ext f h left.same_operator p.0 t.0 n.0, form_ext g k right.same_operator p.1 t.1 n.1)

-- two tests, each of which tells a part
both_same : (d e : Bool) {P Q R : Type 0} → (IsTrue d ↔ P) → (IsTrue e ↔ Q) → (P × Q → R) → (R → P × Q) → IsTrue (d && e) ↔ R
both_same true true p q f g = (λ h. f (p.0 refl, q.0 refl), λ r. refl)
both_same true false p q f g = (λ h. cc, λ r. q.1 (g r).1)
both_same false e p q f g = (λ h. cc, λ r. p.1 (g r).0)

-- two fields are equal exactly if their forms together are
pub join_form_same : (d e : Bool) (f g h k : Form) → length f.names ≡ length (scopes f.tree) →
    length h.names ≡ length (scopes h.tree) → AreAlike f h → AreAlike g k → (IsTrue d ↔ f ≡ h) → (IsTrue e ↔ g ≡ k) →
    IsTrue (d && e) ↔ join_form f g ≡ join_form h k
join_form_same d e f g h k a b left right p q =
    both_same d e p q (λ r. ap (λ x. join_form x g) r.0 ∙ ap (join_form h) r.1) (join_form_parts f g h k a b left right)

-- nodes of one variant are equal exactly if what they hold is
pub variant_same : (k : ℕ) (e : Bool) (f g : Form) → f.operator ≡ g.operator → (IsTrue e ↔ f ≡ g) → IsTrue e ↔ variant k f ≡ variant k g
variant_same k e f g o s = (
  λ h. ap (variant k) (s.0 h),
  λ p. s.1 (form_ext f g o (ap (λ f. f.payloads) p) (ap (λ f. f.tree) p) (ap (λ f. f.names) p)),
)
