-- Each call is handed what the calls before it answered, which the graph still takes; and after a union its sides find alike where no
-- symmetry is open.
use Rattle.std.proofs.Common.{inr}
use Rattle.std.specs.Prelude.{Bool, Result, Ok, Err, IsTrue, IfOk, ◌↔◌}
use Rattle.slotted_slots.specs.declared.error.Error.{Error}
use Rattle.slotted_egraphs.specs.Applied.{Applied}
use Rattle.slotted_egraphs.specs.Image.{Image, FoundAlike, IsUnion, AreClosed}
use Rattle.slotted_egraphs.specs.Nodes.{to_applied}
use Rattle.slotted_egraphs.specs.ValidIds.{IsValidId}
use Rattle.slotted_egraphs.proofs.CallerLemmas.{can_add, valid_later, valid_united, yes_if_closed}
use Rattle.slotted_egraphs.proofs.example.unite_and_ask.Goals as goal

-- where no symmetry is open, an answer that says whether the sides of a union find alike is yes
yes_once_united : (g h : Image) (a b : Applied) (y : Bool) → IsUnion g h a b y → (r : Result Bool Error) → IfOk r (λ yes. IsTrue yes ↔ FoundAlike h a b) → IfOk r (λ yes. AreClosed h → IsTrue yes)
yes_once_united g h a b y u (Ok answer) says = yes_if_closed g h a b y u answer says
yes_once_united g h a b y u (Err error) says = tt

pub add_expr-requires : goal.add_expr-requires
add_expr-requires g c = can_add c.parse_expr.new.self c.parse_expr-2.new.self c.in_ok-left.left c.in_ok-right.ensures.reads.more c.in_ok-left.ensures.valid

pub add_expr-requires-2 : goal.add_expr-requires-2
add_expr-requires-2 g c = can_add c.parse_expr-2.new.self c.add_expr.new.self c.in_ok-right.right c.in_ok-left-2.ensures.more c.in_ok-right.ensures.valid

pub union-requires-clause-left : goal.union-requires-clause-left
union-requires-clause-left g c =
    let added = c.in_ok-right-2.ensures in
    inr (valid_later c.add_expr.new.self c.add_expr-2.new.self (to_applied c.in_ok-left-2.left) added.extends added.adds added.more c.in_ok-left-2.ensures.found.valid)

pub union-requires-clause-right : goal.union-requires-clause-right
union-requires-clause-right g c = inr c.in_ok-right-2.ensures.found.valid

pub eq-requires-clause-left : goal.eq-requires-clause-left
eq-requires-clause-left g c =
    let a = to_applied c.in_ok-left-2.left in
    let b = to_applied c.in_ok-right-2.right in
    let added = c.in_ok-right-2.ensures in
    let valid : IsValidId c.add_expr-2.new.self a = valid_later c.add_expr.new.self c.add_expr-2.new.self a added.extends added.adds added.more c.in_ok-left-2.ensures.found.valid in
    inr (valid_united c.add_expr-2.new.self c.union.new.self a b a c.in_ok-union.field-0 c.in_ok-union.ensures.union c.union.ensures.table valid)

pub eq-requires-clause-right : goal.eq-requires-clause-right
eq-requires-clause-right g c =
    let a = to_applied c.in_ok-left-2.left in
    let b = to_applied c.in_ok-right-2.right in
    inr (valid_united c.add_expr-2.new.self c.union.new.self a b b c.in_ok-union.field-0 c.in_ok-union.ensures.union c.union.ensures.table c.in_ok-right-2.ensures.found.valid)

pub returns : goal.returns
returns g c =
    let a = to_applied c.in_ok-left-2.left in
    let b = to_applied c.in_ok-right-2.right in
    yes_once_united c.add_expr-2.new.self.image c.union.new.self.image a b c.in_ok-union.field-0 c.in_ok-union.ensures.union c.eq.result c.eq.ensures.found
