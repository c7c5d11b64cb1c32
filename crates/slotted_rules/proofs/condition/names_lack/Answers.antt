use Rattle.std.proofs.Common.{◌≡◌, ◌<◌, ◌+◌, ◌∙◌, ℕ, List, true, false, arith, eq-eqb, length, get_or, take, Some, slice_get, ap, sym, not}
use Rattle.std.specs.Prelude.{nat_eq, ◌||◌}
use Rattle.std.specs.List.{list_any}
use Rattle.std.proofs.lemmas.List.Folds.{list_any_at, list_any_more}
use Rattle.std.proofs.lemmas.Option.{get_or_from_slice_get}
use Rattle.std.proofs.lemmas.List.{length-map}
use Rattle.slotted_model.specs.Correspondence.{has_slot}
use Rattle.slotted_slots.specs.Maps.{values}
use Rattle.slotted_rules.proofs.condition.names_lack.Goals as goal

same : (x y : ℕ) → nat_eq x y ≡ true → x ≡ y
same x y e = grind arith

differ : (x y : ℕ) → nat_eq x y ≡ false → nat_eq y x ≡ false
differ x y e = grind arith

found : (vs : List ℕ) (i v slot : ℕ) → i < length vs → slice_get vs i ≡ Some v → nat_eq v slot ≡ true → false ≡ not (has_slot vs slot)
found vs i v slot l at e =
    let read : get_or vs i 0 ≡ v = get_or_from_slice_get vs i v 0 at in
    ap not (sym (list_any_at (nat_eq slot) vs i 0 l (eq-eqb slot (get_or vs i 0) (sym (same v slot e) ∙ sym read))))

further : (vs : List ℕ) (i v slot : ℕ) → i < length vs → slice_get vs i ≡ Some v → nat_eq v slot ≡ false → list_any (nat_eq slot) (take i vs) ≡ false → list_any (nat_eq slot) (take (i + 1) vs) ≡ false
further vs i v slot l at e none =
    let read : get_or vs i 0 ≡ v = get_or_from_slice_get vs i v 0 at in
    list_any_more (nat_eq slot) vs i 0 l ∙ (ap (λ b. b || nat_eq slot (get_or vs i 0)) none ∙ (ap (nat_eq slot) read ∙ differ v slot e))

pub returns-then-eq : goal.returns-then-eq
returns-then-eq c =
    found (values c.args.names.now) c.loop-i.i c.value_at.result c.args.slot (omega (arith, length-map {A = ℕ × ℕ} {B = ℕ})) c.value_at.ensures (sym c.eq.ensures ∙ c.if-eq.true)

pub loop-i-preserved : goal.loop-i-preserved
loop-i-preserved c =
    further (values c.args.names.now) c.loop-i.i c.value_at.result c.args.slot (omega (arith, length-map {A = ℕ × ℕ} {B = ℕ})) c.value_at.ensures (sym c.eq.ensures ∙ c.if-eq.false) c.loop-i.invariant
