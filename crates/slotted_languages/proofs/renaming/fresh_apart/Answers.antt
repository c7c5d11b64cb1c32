-- What was skipped was in use.
use Rattle.std.proofs.Common.{◌≡◌, ◌∙◌, ap, sym, refl, subst, inl, inr, arith}
use Rattle.slotted_slots.specs.Maps.{values}
use Rattle.slotted_slots.proofs.Ascending.{has-is_among}
use Rattle.slotted_languages.specs.Fresh.{IsInUse, IsOrIn, RunsOut, at_hand}
use Rattle.slotted_slots.specs.Table.{KnowsMore, TakesAtMost, is_known, slot_limit}
use Rattle.slotted_slots.proofs.SlotsTaken.{at_most_more, at_most_one, at_most_then, at_most_used, lacks_at_end}
use Rattle.slotted_slots.proofs.Taken.{takes_fresh, takes_as}
use Rattle.slotted_languages.proofs.Counting.{in_use_at_hand}
use Rattle.slotted_languages.proofs.HandedOn.{handed_err, not_refused, slots_handed}
use Rattle.slotted_languages.proofs.Occurrences.{lacks_smaller}
use Rattle.slotted_slots.specs.declared.error.Error.TheVariants.{OutOfSlots}
use Rattle.slotted_languages.proofs.renaming.fresh_apart.Goals as goal
use Rattle.slotted_languages.proofs.renaming.fresh_apart.Goals.{else-not-contains-via-then-not-contains+then-not-has_value+else-not-has_name, else-not-contains-via-then-not-contains+else-not-has_value, else-not-contains-via-else-not-contains}

pub returns-then-not-has_name-clause-taken : goal.returns-then-not-has_name-clause-taken
returns-then-not-has_name-clause-taken g c =
    let f = g.L.LanguageChildren.form c.args.node.now in
    let avoid = c.args.avoid.now in
    let vs = values c.args.names.now in
    let m = c.in_ok-slot.ensures.moved in
    takes_fresh c.args.table.now c.loop-slot.table c.fresh.new.self (IsOrIn c.in_ok-slot.slot avoid vs f.names) c.in_ok-slot.slot c.in_ok-slot.ensures.slot (ap (λ t. t.fresh) m) (ap (λ t. t.names) m)
    (takes_as c.args.table.now c.loop-slot.table (IsInUse avoid vs f.names) (IsOrIn c.in_ok-slot.slot avoid vs f.names) c.loop-slot.invariant.skipped (λ z p. inr p))
    (inl refl)

pub loop-slot-preserved : goal.loop-slot-preserved
loop-slot-preserved g c =
    let f = g.L.LanguageChildren.form c.args.node.now in
    let avoid = c.args.avoid.now in
    let vs = values c.args.names.now in
    let s = c.in_ok-slot.slot in
    let m = c.in_ok-slot.ensures.moved in
    let used : IsInUse avoid vs f.names s =
    elim c.else-not-contains.branch [
      | else-not-contains-via-then-not-contains+then-not-has_value+else-not-has_name w ↦ inr (inr (sym w.has_name.ensures ∙ w.if-not-has_name.false))
      | else-not-contains-via-then-not-contains+else-not-has_value w ↦ inr (inl (sym w.has_value.ensures.is ∙ w.if-not-has_value.false))
      | else-not-contains-via-else-not-contains w ↦ inl (sym (has-is_among avoid s) ∙ (sym c.contains.ensures ∙ w.if-not-contains.false))
    ] in
    let hand = at_hand avoid c.args.names.now f in
    record {
      count = at_most_then 0 0 hand c.args.table.now c.loop-slot.table c.fresh.new.self c.loop-slot.invariant.count
          (at_most_used hand c.loop-slot.table c.fresh.new.self s (ap (λ t. t.fresh) m) c.in_ok-slot.ensures.slot (in_use_at_hand avoid c.args.names.now f s used));
      more = λ z k. c.in_ok-slot.ensures.more z (c.loop-slot.invariant.more z k);
      kept = ap (λ t. t.names) m ∙ c.loop-slot.invariant.kept;
      skipped = takes_fresh c.args.table.now c.loop-slot.table c.fresh.new.self (IsInUse avoid vs f.names) s c.in_ok-slot.ensures.slot (ap (λ t. t.fresh) m) (ap (λ t. t.names) m) c.loop-slot.invariant.skipped used;
    }

pub returns-then-not-has_name-clause-count : goal.returns-then-not-has_name-clause-count
returns-then-not-has_name-clause-count g c =
    let hand = at_hand c.args.avoid.now c.args.names.now (g.L.LanguageChildren.form c.args.node.now) in
    let m = c.in_ok-slot.ensures.moved in
    at_most_then 0 1 hand c.args.table.now c.loop-slot.table c.fresh.new.self c.loop-slot.invariant.count (at_most_one hand c.loop-slot.table c.fresh.new.self (ap (λ t. t.fresh) m))

pub returns-in_err-slot-clause-count : goal.returns-in_err-slot-clause-count
returns-in_err-slot-clause-count g c =
    let hand = at_hand c.args.avoid.now c.args.names.now (g.L.LanguageChildren.form c.args.node.now) in
    subst (λ u. TakesAtMost 1 hand c.args.table.now u) (sym c.in_err-slot.ensures.err)
    (at_most_more 0 1 hand c.args.table.now c.loop-slot.table (omega arith) c.loop-slot.invariant.count)

pub returns-in_err-slot-clause-full : goal.returns-in_err-slot-clause-full
returns-in_err-slot-clause-full g c is =
    let hand = at_hand c.args.avoid.now c.args.names.now (g.L.LanguageChildren.form c.args.node.now) in
    let full : c.loop-slot.table.fresh ≡ slot_limit = c.in_err-slot.ensures.full.0 (slots_handed c.from_residual.result c.in_err-slot.field-0.0 c.from_residual.ensures.1 is) in
    subst (λ u. RunsOut 1 hand c.args.table.now u) (sym c.in_err-slot.ensures.err)
    (full, lacks_at_end 1 0 hand c.args.table.now c.loop-slot.table full (omega arith) c.loop-slot.invariant.count)

pub returns-in_err-slot-clause-only : goal.returns-in_err-slot-clause-only
returns-in_err-slot-clause-only g c = handed_err c.from_residual.result c.in_err-slot.field-0.0 c.from_residual.ensures.1 (λ x. x ≡ OutOfSlots) c.in_err-slot.ensures.only

pub returns-in_err-slot-clause-more : goal.returns-in_err-slot-clause-more
returns-in_err-slot-clause-more g c = subst (λ u. KnowsMore c.args.table.now u) (sym c.in_err-slot.ensures.err) c.loop-slot.invariant.more

pub returns-in_err-slot-clause-kept : goal.returns-in_err-slot-clause-kept
returns-in_err-slot-clause-kept g c = ap (λ t. t.names) c.in_err-slot.ensures.err ∙ c.loop-slot.invariant.kept

pub returns-then-not-has_name-clause-node : goal.returns-then-not-has_name-clause-node
returns-then-not-has_name-clause-node g c = sym c.has_name.ensures ∙ c.if-not-has_name.true

pub returns-then-not-has_name-clause-names : goal.returns-then-not-has_name-clause-names
returns-then-not-has_name-clause-names g c = sym c.has_value.ensures.is ∙ c.if-not-has_value.true

pub returns-then-not-has_name-clause-avoid : goal.returns-then-not-has_name-clause-avoid
returns-then-not-has_name-clause-avoid g c = sym (has-is_among c.args.avoid.now c.in_ok-slot.slot) ∙ (sym c.contains.ensures ∙ c.if-not-contains.true)

pub returns-then-not-has_name-clause-unused : goal.returns-then-not-has_name-clause-unused
returns-then-not-has_name-clause-unused g c = lacks_smaller (is_known c.args.table.now c.in_ok-slot.slot) (is_known c.loop-slot.table c.in_ok-slot.slot) (c.loop-slot.invariant.more c.in_ok-slot.slot) c.in_ok-slot.ensures.unused

pub returns-then-not-has_name-clause-known : goal.returns-then-not-has_name-clause-known
returns-then-not-has_name-clause-known g c = c.in_ok-slot.ensures.known

pub returns-then-not-has_name-clause-full : goal.returns-then-not-has_name-clause-full
returns-then-not-has_name-clause-full g c is = not_refused c.in_ok-slot.slot is

pub returns-then-not-has_name-clause-more : goal.returns-then-not-has_name-clause-more
returns-then-not-has_name-clause-more g c z k = c.in_ok-slot.ensures.more z (c.loop-slot.invariant.more z k)

pub returns-then-not-has_name-clause-kept : goal.returns-then-not-has_name-clause-kept
returns-then-not-has_name-clause-kept g c = ap (λ t. t.names) c.in_ok-slot.ensures.moved ∙ c.loop-slot.invariant.kept
