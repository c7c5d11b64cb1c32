use Rattle.std.proofs.Common.{◌≡◌, ◌+◌, ◌∙◌, ap, arith, inl, inr, length, subst, ◌≤◌}
use Rattle.slotted_slots.specs.Maps.{values}
use Rattle.slotted_slots.proofs.Ascending.{IsAscending-from_sorted}
use Rattle.slotted_slots.proofs.SlotsTaken.{at_most_more, at_most_then}
use Rattle.slotted_languages.specs.Fresh.{IsFilled, RunsOut, at_hand}
use Rattle.slotted_languages.proofs.Counting.{in_use_at_hand, runs_out_beside, runs_out_more, runs_out_then, takes_beside, values_at_hand, values_then}
use Rattle.slotted_languages.proofs.Fills.{next_filled}
use Rattle.slotted_languages.proofs.Taken.{grown_taken}
use Rattle.slotted_languages.proofs.HandedOn.{handed_short, not_refused, slots_handed}
use Rattle.std.proofs.lemmas.List.{take_all}
use Rattle.slotted_languages.proofs.fresh.fill_names.Goals as goal

pub loop-name-preserved : goal.loop-name-preserved
loop-name-preserved g c =
    let f = g.L.LanguageChildren.form c.args.node.now in
    let hand = at_hand c.args.wanted.now c.args.names.now f in
    record {
      filled = next_filled c.args.table.now c.loop-name.table c.fill_name.new.table f.names c.as_slice-name-items.result.now c.loop-name.name-index c.name-item.result c.args.names.now c.loop-name.names c.fill_name.new.names
          (omega (arith, c.loop-name-test.true)) c.name-item.is c.loop-name.invariant.more c.fill_name.ensures.more c.loop-name.invariant.filled c.in_ok-fill_name.ensures.ok;
      more = λ s k. c.fill_name.ensures.more s (c.loop-name.invariant.more s k);
      count = at_most_then c.loop-name.name-index 1 hand c.args.table.now c.loop-name.table c.fill_name.new.table c.loop-name.invariant.count
          (takes_beside 1 c.loop-name.table c.fill_name.new.table c.args.wanted.now hand c.loop-name.names f (values_at_hand c.loop-name.table c.args.wanted.now c.args.names.now c.loop-name.names f c.loop-name.invariant.valued)
          (λ z q. in_use_at_hand c.args.wanted.now c.args.names.now f z (inl q)) (λ z q. in_use_at_hand c.args.wanted.now c.args.names.now f z (inr (inr q))) c.fill_name.ensures.count);
      valued = values_then c.loop-name.table c.fill_name.new.table (values c.args.names.now) c.loop-name.names c.fill_name.new.names c.fill_name.ensures.more c.loop-name.invariant.valued c.in_ok-fill_name.ensures.values;
      behind = omega (arith, c.loop-name-test.true);
      kept = c.fill_name.ensures.kept ∙ c.loop-name.invariant.kept;
      taken = grown_taken c.args.table.now c.loop-name.table c.fill_name.new.table c.args.wanted.now f.names (values c.loop-name.names) (values c.fill_name.new.names)
          c.in_ok-fill_name.ensures.grown c.loop-name.invariant.taken c.in_ok-fill_name.ensures.taken;
    }

pub returns-clause-sorted : goal.returns-clause-sorted
returns-clause-sorted g c = IsAscending-from_sorted c.args.wanted.now c.as_slice-name-items.ensures.ascending

pub returns-in_err-fill_name-clause-sorted : goal.returns-in_err-fill_name-clause-sorted
returns-in_err-fill_name-clause-sorted g c = IsAscending-from_sorted c.args.wanted.now c.as_slice-name-items.ensures.ascending

pub returns-clause-count : goal.returns-clause-count
returns-clause-count g c =
    let f = g.L.LanguageChildren.form c.args.node.now in
    let same : length c.as_slice-name-items.result.now ≡ length c.args.wanted.now = ap (λ xs. length xs) c.as_slice-name-items.ensures.elements in
    at_most_more c.loop-name.name-index (length c.args.wanted.now) (at_hand c.args.wanted.now c.args.names.now f) c.args.table.now c.loop-name.table (omega (arith, same, c.loop-name.invariant.behind)) c.loop-name.invariant.count

pub returns-in_err-fill_name-clause-count : goal.returns-in_err-fill_name-clause-count
returns-in_err-fill_name-clause-count g c =
    let f = g.L.LanguageChildren.form c.args.node.now in
    let hand = at_hand c.args.wanted.now c.args.names.now f in
    let same : length c.as_slice-name-items.result.now ≡ length c.args.wanted.now = ap (λ xs. length xs) c.as_slice-name-items.ensures.elements in
    at_most_more (c.loop-name.name-index + 1) (length c.args.wanted.now) hand c.args.table.now c.fill_name.new.table (omega (arith, same, c.loop-name-test.true))
    (at_most_then c.loop-name.name-index 1 hand c.args.table.now c.loop-name.table c.fill_name.new.table c.loop-name.invariant.count
    (takes_beside 1 c.loop-name.table c.fill_name.new.table c.args.wanted.now hand c.loop-name.names f (values_at_hand c.loop-name.table c.args.wanted.now c.args.names.now c.loop-name.names f c.loop-name.invariant.valued)
    (λ z q. in_use_at_hand c.args.wanted.now c.args.names.now f z (inl q)) (λ z q. in_use_at_hand c.args.wanted.now c.args.names.now f z (inr (inr q))) c.fill_name.ensures.count))

pub returns-in_err-fill_name-clause-full : goal.returns-in_err-fill_name-clause-full
returns-in_err-fill_name-clause-full g c is =
    let f = g.L.LanguageChildren.form c.args.node.now in
    let out : RunsOut 1 (at_hand c.args.wanted.now c.loop-name.names f) c.loop-name.table c.fill_name.new.table = c.fill_name.ensures.full (c.in_err-fill_name.was ∙ slots_handed c.from_residual.result c.in_err-fill_name.field-0.0 c.from_residual.ensures.1 is) in
    let hand = at_hand c.args.wanted.now c.args.names.now f in
    let same : length c.as_slice-name-items.result.now ≡ length c.args.wanted.now = ap (λ xs. length xs) c.as_slice-name-items.ensures.elements in
    runs_out_more (c.loop-name.name-index + 1) (length c.args.wanted.now) hand c.args.table.now c.fill_name.new.table (omega (arith, same, c.loop-name-test.true))
    (runs_out_then 1 c.loop-name.name-index hand c.args.table.now c.loop-name.table c.fill_name.new.table c.loop-name.invariant.count
    (runs_out_beside 1 c.loop-name.table c.fill_name.new.table c.args.wanted.now hand c.loop-name.names f c.fill_name.ensures.more (values_at_hand c.loop-name.table c.args.wanted.now c.args.names.now c.loop-name.names f c.loop-name.invariant.valued)
    (λ z q. in_use_at_hand c.args.wanted.now c.args.names.now f z (inl q)) (λ z q. in_use_at_hand c.args.wanted.now c.args.names.now f z (inr (inr q))) out))

pub returns-in_err-fill_name-clause-only : goal.returns-in_err-fill_name-clause-only
returns-in_err-fill_name-clause-only g c = handed_short c.from_residual.result c.in_err-fill_name.field-0.0 c.from_residual.ensures.1 c.in_err-fill_name.ensures.only

pub returns-in_err-fill_name-clause-more : goal.returns-in_err-fill_name-clause-more
returns-in_err-fill_name-clause-more g c z k = c.fill_name.ensures.more z (c.loop-name.invariant.more z k)

pub returns-in_err-fill_name-clause-kept : goal.returns-in_err-fill_name-clause-kept
returns-in_err-fill_name-clause-kept g c = c.fill_name.ensures.kept ∙ c.loop-name.invariant.kept

pub returns-clause-full : goal.returns-clause-full
returns-clause-full g c is = not_refused tt is

pub returns-clause-taken : goal.returns-clause-taken
returns-clause-taken g c = c.loop-name.invariant.taken

pub returns-clause-ok : goal.returns-clause-ok
returns-clause-ok g c =
    let f = (g.L.LanguageChildren.form c.args.node.now) in
    let items = c.as_slice-name-items.result.now in
    let le : length items ≤ c.loop-name.name-index = omega (arith, c.loop-name-test.false) in
    subst (λ ws. IsFilled c.args.table.now c.loop-name.table f.names ws c.args.names.now c.loop-name.names)
    (take_all c.loop-name.name-index items le ∙ c.as_slice-name-items.ensures.elements) c.loop-name.invariant.filled
