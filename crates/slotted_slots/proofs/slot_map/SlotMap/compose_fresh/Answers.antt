-- The loop fills the values from the left.
use Rattle.std.proofs.Common.{◌≡◌, [], ◌∷◌, ◌++◌, take, ap, subst, sym, arith, ◌∙◌}
use Rattle.std.proofs.lemmas.List.{take_all}
use Rattle.slotted_lists.proofs.Maps.{is_among-right}
use Rattle.slotted_slots.specs.Combining.{sent_on, both_values, IsFilled, IsCompleted, TakesForLacked, LacksForLacked, TakesToComplete, LacksToComplete}
use Rattle.slotted_slots.specs.Maps.{IsInEither, keys, values, value_of, composed, all_differ}
use Rattle.slotted_slots.proofs.FreshLaws.{AreFilled, lacked_step, IsCompleted-filled, all_differ-filled, completed_step, completing_takes, completing_lacks}
use Rattle.slotted_slots.proofs.Taken.{takes_value}
use Rattle.slotted_slots.specs.Table.{Takes}
use Rattle.slotted_slots.specs.Ascending.{IsAscending}
use Rattle.slotted_slots.proofs.slot_map.SlotMap.compose_fresh.Goals as goal

pub loop-pair-preserved : goal.loop-pair-preserved
loop-pair-preserved c =
    let xs = c.deref-pair-items.result.now in
    let other = c.args.other.now in
    let p = c.pair-item.result in
    let same : c.as_slice.result.now ≡ xs = c.as_slice.ensures.value ∙ sym c.deref-pair-items.ensures.value in
    let last = subst (λ m. IsFilled c.loop-pair.table.fresh c.value_or_fresh.new.table.fresh (values m ++ values other) (value_of other p.1) c.in_ok-value.value) same c.in_ok-value.ensures.value in
    let step = completed_step (values xs ++ values other) c.args.table.now.fresh c.loop-pair.table.fresh c.value_or_fresh.new.table.fresh xs other c.loop-pair.pairs.items c.push.new.self.items c.loop-pair.pair-index p c.in_ok-value.value
    c.loop-pair-test.true c.pair-item.is c.in_ok-push.ensures.items c.loop-pair.invariant.keys c.loop-pair.invariant.values last in
    let counted = subst (λ m. TakesForLacked other (p.1 ∷ []) (values m ++ values other) c.loop-pair.table c.value_or_fresh.new.table) same c.in_ok-value.ensures.count in
    record {
      taken = takes_value c.args.table.now c.loop-pair.table c.value_or_fresh.new.table (values xs ++ values other) c.loop-pair.pairs.items c.push.new.self.items (p.0, c.in_ok-value.value) c.in_ok-push.ensures.items c.loop-pair.invariant.taken
          (subst (λ m. Takes c.loop-pair.table c.value_or_fresh.new.table (IsInEither (c.in_ok-value.value ∷ []) (values m ++ values other))) same c.in_ok-value.ensures.taken);
      count = omega (arith, c.loop-pair.invariant.count, lacked_step other xs c.loop-pair.pair-index p c.loop-pair-test.true c.pair-item.is, counted);
      keys = step.keys;
      values = step.values;
      names = c.in_ok-value.ensures.names ∙ c.loop-pair.invariant.names;
      more = λ s known. c.in_ok-value.ensures.more s (c.loop-pair.invariant.more s known);
    }

pub returns-clause-completed : goal.returns-clause-completed
returns-clause-completed c =
    let xs = c.deref-pair-items.result.now in
    let other = c.args.other.now in
    let all : take c.loop-pair.pair-index xs ≡ xs = take_all c.loop-pair.pair-index xs c.loop-pair-test.false in
    let new_keys : keys c.loop-pair.pairs.items ≡ keys xs = c.loop-pair.invariant.keys ∙ ap keys all in
    let new_values = subst (λ m. AreFilled (values xs ++ values other) c.args.table.now.fresh c.loop-pair.table.fresh (sent_on m other) (values c.loop-pair.pairs.items)) all c.loop-pair.invariant.values in
    subst (λ m. IsCompleted c.args.table.now c.loop-pair.table m other c.loop-pair.pairs.items) (c.deref-pair-items.ensures.value ∙ c.self.view_is)
    (IsCompleted-filled c.args.table.now c.loop-pair.table xs other c.loop-pair.pairs.items new_keys new_values)

pub returns-clause-taken : goal.returns-clause-taken
returns-clause-taken c =
    subst (λ m. Takes c.args.table.now c.loop-pair.table (IsInEither (values c.loop-pair.pairs.items) (values m ++ values c.args.other.now))) (c.deref-pair-items.ensures.value ∙ c.self.view_is) c.loop-pair.invariant.taken

pub returns-clause-injective : goal.returns-clause-injective
returns-clause-injective c differ =
    let xs = c.deref-pair-items.result.now in
    let other = c.args.other.now in
    let all : take c.loop-pair.pair-index xs ≡ xs = take_all c.loop-pair.pair-index xs c.loop-pair-test.false in
    let new_values = subst (λ m. AreFilled (values xs ++ values other) c.args.table.now.fresh c.loop-pair.table.fresh (sent_on m other) (values c.loop-pair.pairs.items)) all c.loop-pair.invariant.values in
    all_differ-filled (values xs ++ values other) c.args.table.now.fresh c.loop-pair.table.fresh xs other (values c.loop-pair.pairs.items) (is_among-right (values xs) (values other)) new_values
    (ap (λ m. all_differ (values (composed m other))) (c.deref-pair-items.ensures.value ∙ c.self.view_is) ∙ differ)

pub returns-in_err-value-clause-count : goal.returns-in_err-value-clause-count
returns-in_err-value-clause-count c =
    let xs = c.deref-pair-items.result.now in
    let other = c.args.other.now in
    let p = c.pair-item.result in
    let last = subst (λ m. TakesForLacked other (p.1 ∷ []) (both_values m other) c.loop-pair.table c.value_or_fresh.new.table) (c.as_slice.ensures.value ∙ sym c.deref-pair-items.ensures.value) c.in_err-value.ensures.count in
    subst (λ m. TakesToComplete m other c.args.table.now c.value_or_fresh.new.table) (c.deref-pair-items.ensures.value ∙ c.self.view_is)
    (completing_takes xs other c.loop-pair.pair-index p c.args.table.now c.loop-pair.table c.value_or_fresh.new.table c.loop-pair-test.true c.pair-item.is c.loop-pair.invariant.count last)

pub returns-in_err-value-clause-full : goal.returns-in_err-value-clause-full
returns-in_err-value-clause-full c is_full =
    let xs = c.deref-pair-items.result.now in
    let other = c.args.other.now in
    let p = c.pair-item.result in
    let last = subst (λ m. LacksForLacked other (p.1 ∷ []) (both_values m other) c.loop-pair.table) (c.as_slice.ensures.value ∙ sym c.deref-pair-items.ensures.value) c.in_err-value.ensures.full in
    subst (λ m. LacksToComplete m other c.args.table.now) (c.deref-pair-items.ensures.value ∙ c.self.view_is)
    (completing_lacks xs other c.loop-pair.pair-index p c.args.table.now c.loop-pair.table c.loop-pair-test.true c.pair-item.is c.loop-pair.invariant.count last)

pub returns-in_err-push-clause-count : goal.returns-in_err-push-clause-count
returns-in_err-push-clause-count c =
    let xs = c.deref-pair-items.result.now in
    let other = c.args.other.now in
    let p = c.pair-item.result in
    let last = subst (λ m. TakesForLacked other (p.1 ∷ []) (both_values m other) c.loop-pair.table c.value_or_fresh.new.table) (c.as_slice.ensures.value ∙ sym c.deref-pair-items.ensures.value) c.in_ok-value.ensures.count in
    subst (λ m. TakesToComplete m other c.args.table.now c.value_or_fresh.new.table) (c.deref-pair-items.ensures.value ∙ c.self.view_is)
    (completing_takes xs other c.loop-pair.pair-index p c.args.table.now c.loop-pair.table c.value_or_fresh.new.table c.loop-pair-test.true c.pair-item.is c.loop-pair.invariant.count last)

pub invariant_of-result : goal.invariant_of-result
invariant_of-result c =
    let xs = c.deref-pair-items.result.now in
    let all : take c.loop-pair.pair-index xs ≡ xs = take_all c.loop-pair.pair-index xs c.loop-pair-test.false in
    subst IsAscending (sym (c.loop-pair.invariant.keys ∙ (ap keys all ∙ ap keys c.deref-pair-items.ensures.value))) c.self.invariant

pub returns-clause-count : goal.returns-clause-count
returns-clause-count c =
    let xs = c.deref-pair-items.result.now in
    let other = c.args.other.now in
    let all : take c.loop-pair.pair-index xs ≡ xs = take_all c.loop-pair.pair-index xs c.loop-pair-test.false in
    subst (λ m. TakesToComplete m other c.args.table.now c.loop-pair.table) (c.deref-pair-items.ensures.value ∙ c.self.view_is)
    (subst (λ m. TakesForLacked other (values m) (both_values xs other) c.args.table.now c.loop-pair.table) all c.loop-pair.invariant.count)
