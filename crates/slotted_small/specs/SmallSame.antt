-- The laws of a language at Small.
use Rattle.std.specs.Prelude.{◌≡◌, ℕ, ◌<◌, [], ◌∷◌, length, refl, Bool, IsTrue, ◌↔◌, nat_eq, ◌&&◌}
use Rattle.std.proofs.Common.{lit<, arith, ap}
use Rattle.slotted_nodes.specs.Form.{Form, variant, plain, slot_form, child_form, bind_form, join_form, scopes, children}
use Rattle.std.specs.Cmp.Lexicographic.{pointwise}
use Rattle.slotted_slots.specs.Table.{slot_limit}
use Rattle.slotted_slots.specs.declared.types.AppliedId.{AppliedId}
use Rattle.slotted_nodes.specs.Equal.{applied_id_same, bind_same, bind_form_fits, child_form_fits, slot_same, number_told, bytes_told, plain_same}
use Rattle.slotted_nodes.specs.PairEqual.{AreAlike, join_form_fits, join_form_same, variant_same}
use Rattle.slotted_small.specs.declared.small.Small.{Small}
use Rattle.slotted_small.specs.declared.small.Small.TheVariants.{Lam, App, Var, F, G, Add, Mul, Number, Word}
use Rattle.slotted_small.specs.Small.{small_form}
use Rattle.slotted_small.specs.contracts.small.SmallPartialEq.TheImpl.{ghosts}

-- whether two children are equal, and the form of a child
abbrev id_eq : AppliedId → AppliedId → Bool
id_eq a b = nat_eq a.id.0 b.id.0 && pointwise (λ p q. nat_eq p.0 q.0 && nat_eq p.1 q.1) a.m b.m

abbrev form_of : AppliedId → Form
form_of a = child_form a.id.0 a.m

alike_children : (a b : AppliedId) → AreAlike (form_of a) (form_of b)
alike_children a b = record { same_operator = refl; as_many_payloads = refl; as_many_arguments = refl }

alike_slots : (x y : ℕ) → AreAlike (slot_form x) (slot_form y)
alike_slots x y = record { same_operator = refl; as_many_payloads = refl; as_many_arguments = refl }

-- a node has as many names as its tree has places
pub small_fits : (a : Small) → length (small_form a).names ≡ length (scopes (small_form a).tree)
small_fits (Lam b) = bind_form_fits b.slot (child_form b.elem.id.0 b.elem.m) (child_form_fits b.elem.m)
small_fits (App a b) = join_form_fits (form_of a) (form_of b) (child_form_fits a.m) (child_form_fits b.m)
small_fits (Var x) = refl
small_fits (F x y) = refl
small_fits (G x) = refl
small_fits (Add a b) = join_form_fits (form_of a) (form_of b) (child_form_fits a.m) (child_form_fits b.m)
small_fits (Mul a b) = join_form_fits (form_of a) (form_of b) (child_form_fits a.m) (child_form_fits b.m)
small_fits (Number n) = refl
small_fits (Word w) = refl

-- a node has at most two children
pub small_few : (a : Small) → length (children (small_form a).tree) < slot_limit
small_few (Lam b) = lit< tt
small_few (App a b) = lit< tt
small_few (Var x) = lit< tt
small_few (F x y) = lit< tt
small_few (G x) = lit< tt
small_few (Add a b) = lit< tt
small_few (Mul a b) = lit< tt
small_few (Number n) = lit< tt
small_few (Word w) = lit< tt

-- nodes of one operator with two children
children_same : (k : ℕ) (a b c d : AppliedId) → IsTrue (id_eq a c && id_eq b d) ↔
    variant k (join_form (form_of a) (form_of b)) ≡ variant k (join_form (form_of c) (form_of d))
children_same k a b c d = variant_same k (id_eq a c && id_eq b d) (join_form (form_of a) (form_of b)) (join_form (form_of c) (form_of d)) refl
    (join_form_same (id_eq a c) (id_eq b d) (form_of a) (form_of b) (form_of c) (form_of d) (child_form_fits a.m) (child_form_fits c.m) (alike_children a c) (alike_children b d) (applied_id_same a c) (applied_id_same b d))

-- two nodes are equal exactly if their forms are
pub small_same : (a b : Small) → IsTrue (ghosts.eq a b) ↔ small_form a ≡ small_form b
small_same (Lam a) (Lam b) = variant_same 0 (nat_eq a.slot b.slot && id_eq a.elem b.elem) (bind_form a.slot (form_of a.elem)) (bind_form b.slot (form_of b.elem)) refl
    (bind_same (id_eq a.elem b.elem) a.slot b.slot (form_of a.elem) (form_of b.elem) (applied_id_same a.elem b.elem))
small_same (App a b) (App c d) = children_same 1 a b c d
small_same (Var x) (Var y) = variant_same 2 (nat_eq x y) (slot_form x) (slot_form y) refl (slot_same x y)
small_same (F a b) (F c d) = variant_same 3 (nat_eq a c && nat_eq b d) (join_form (slot_form a) (slot_form b)) (join_form (slot_form c) (slot_form d)) refl
    (join_form_same (nat_eq a c) (nat_eq b d) (slot_form a) (slot_form b) (slot_form c) (slot_form d) refl refl (alike_slots a c) (alike_slots b d) (slot_same a c) (slot_same b d))
small_same (G x) (G y) = variant_same 4 (nat_eq x y) (slot_form x) (slot_form y) refl (slot_same x y)
small_same (Add a b) (Add c d) = children_same 5 a b c d
small_same (Mul a b) (Mul c d) = children_same 6 a b c d
small_same (Number m) (Number n) = variant_same 7 (nat_eq m n) (plain ((m ∷ []) ∷ [])) (plain ((n ∷ []) ∷ [])) refl
    (plain_same (nat_eq m n) (m ∷ []) (n ∷ []) (number_told m n))
small_same (Word v) (Word w) = variant_same 8 (pointwise nat_eq v w) (plain (v ∷ [])) (plain (w ∷ [])) refl
    (plain_same (pointwise nat_eq v w) v w (bytes_told v w))
small_same a b = (λ h. cc, λ e. absurd (omega (arith, ap (λ f. f.operator) e)))
