-- The laws of a binder over a child with a slot after it.
--     tail_form x c y     a binder x over the child c, and the slot y after its scope
--     tails_equal         whether two such are equal, field by field
use Rattle.std.specs.Prelude.{◌≡◌, ◌↔◌, ◌&&◌, ℕ, Bool, IsTrue, length, nat_eq, refl}
use Rattle.std.specs.Cmp.Lexicographic.{pointwise}
use Rattle.slotted_slots.specs.declared.types.AppliedId.{AppliedId}
use Rattle.slotted_nodes.specs.Equal.{applied_id_same, bind_form_fits, bind_same, child_form_fits, slot_same}
use Rattle.slotted_nodes.specs.Form.{Form, bind_form, child_form, join_form, scopes, slot_form}
use Rattle.slotted_nodes.specs.PairEqual.{AreAlike, join_form_fits, join_form_same}

abbrev pub scope_form : ℕ → AppliedId → Form
scope_form x c = bind_form x (child_form c.id.0 c.m)

abbrev pub tail_form : ℕ → AppliedId → ℕ → Form
tail_form x c y = join_form (scope_form x c) (slot_form y)

-- as many names as places
scope_fits : (x : ℕ) (c : AppliedId) → length (scope_form x c).names ≡ length (scopes (scope_form x c).tree)
scope_fits x c = bind_form_fits x (child_form c.id.0 c.m) (child_form_fits c.m)

pub tail_fits : (x : ℕ) (c : AppliedId) (y : ℕ) → length (tail_form x c y).names ≡ length (scopes (tail_form x c y).tree)
tail_fits x c y = join_form_fits (scope_form x c) (slot_form y) (scope_fits x c) refl

-- field by field
abbrev pub scopes_equal : ℕ → AppliedId → ℕ → AppliedId → Bool
scopes_equal x c z d = nat_eq x z && (nat_eq c.id.0 d.id.0 && pointwise (λ p q. nat_eq p.0 q.0 && nat_eq p.1 q.1) c.m d.m)

abbrev pub tails_equal : ℕ → AppliedId → ℕ → ℕ → AppliedId → ℕ → Bool
tails_equal x c y z d w = scopes_equal x c z d && nat_eq y w

scope_same : (x : ℕ) (c : AppliedId) (z : ℕ) (d : AppliedId) → IsTrue (scopes_equal x c z d) ↔ scope_form x c ≡ scope_form z d
scope_same x c z d =
    bind_same (nat_eq c.id.0 d.id.0 && pointwise (λ p q. nat_eq p.0 q.0 && nat_eq p.1 q.1) c.m d.m) x z (child_form c.id.0 c.m) (child_form d.id.0 d.m) (applied_id_same c d)

scopes_alike : (x : ℕ) (c : AppliedId) (z : ℕ) (d : AppliedId) → AreAlike (scope_form x c) (scope_form z d)
scopes_alike x c z d = record { same_operator = refl; as_many_payloads = refl; as_many_arguments = refl }

slots_alike : (y w : ℕ) → AreAlike (slot_form y) (slot_form w)
slots_alike y w = record { same_operator = refl; as_many_payloads = refl; as_many_arguments = refl }

tails_alike : (x : ℕ) (c : AppliedId) (y z : ℕ) (d : AppliedId) (w : ℕ) → AreAlike (tail_form x c y) (tail_form z d w)
tails_alike x c y z d w = record { same_operator = refl; as_many_payloads = refl; as_many_arguments = refl }

-- two are equal exactly if their forms are
pub tail_same : (x : ℕ) (c : AppliedId) (y z : ℕ) (d : AppliedId) (w : ℕ) → IsTrue (tails_equal x c y z d w) ↔
    tail_form x c y ≡ tail_form z d w
tail_same x c y z d w =
    join_form_same (scopes_equal x c z d) (nat_eq y w) (scope_form x c) (slot_form y) (scope_form z d) (slot_form w) (scope_fits x c) (scope_fits z d)
    (scopes_alike x c z d) (slots_alike y w) (scope_same x c z d) (slot_same y w)
