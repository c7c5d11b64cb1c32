use Rattle.std.proofs.Common.{◌≡◌, ◌<◌, ◌+◌, ◌++◌, ◌∙◌, length, sym, ap, arith, refl}
use Rattle.std.specs.Prelude.{true}
use Rattle.std.proofs.lemmas.Bool.{false≢true}
use Rattle.slotted_lists.proofs.Maps.{is_among-left, is_among-right}
use Rattle.slotted_slots.specs.Maps.{is_among, values}
use Rattle.slotted_slots.proofs.SlotsTaken.{at_most_more, at_most_none}
use Rattle.slotted_slots.proofs.Taken.{takes_none}
use Rattle.slotted_languages.proofs.Counting.{binders_among, binders_below, number_named, place_runs_out, place_takes, runs_out_beside, takes_beside, values_entered}
use Rattle.slotted_languages.specs.Fresh.{IsInUse, RunsOut, at_hand}
use Rattle.slotted_languages.specs.Renaming.{HasName}
use Rattle.slotted_languages.proofs.TakenNames.{all_taken, entered_stands, entered_takes, renaming_length}
use Rattle.slotted_languages.proofs.Renamings.{all_renamed, among_index, none_renamed, one_renamed}
use Rattle.slotted_languages.proofs.HandedOn.{handed_short, not_refused, slots_handed}
use Rattle.slotted_languages.proofs.renaming.rename.Goals as goal

pub loop-i-init : goal.loop-i-init
loop-i-init g c =
    let form = g.L.LanguageChildren.form in
    record {
      renamed = none_renamed c.args.table.now (form c.args.node.now) (form c.args.numbered) c.args.avoid.now c.args.free.now c.new-names.result (g.met.L.LanguageChildren.fits c.args.node.now) c.requires.numbered c.new-names.ensures;
      more = λ s k. k;
      taken = takes_none c.args.table.now (IsInUse c.args.avoid.now (values c.new-names.result) (form c.args.node.now).names);
      placed = λ z h. absurd (false≢true (sym (ap (λ m. is_among z (values m)) c.new-names.ensures) ∙ h));
      count = at_most_none (c.args.avoid.now ++ (form c.args.node.now).names) c.args.table.now;
      valued = λ z h. absurd (false≢true (sym (ap (λ m. is_among z (values m)) c.new-names.ensures) ∙ h));
      kept = refl;
    }

pub loop-i-preserved : goal.loop-i-preserved
loop-i-preserved g c =
    let form = g.L.LanguageChildren.form in
    let f = form c.args.node.now in
    let lt : c.loop-i.i < length f.names = omega (arith, c.loop-i-test.true, c.slot_count-i-end.ensures) in
    let there : is_among c.slot-name.result f.names ≡ true = ap (λ x. is_among x f.names) c.slot-name.ensures ∙ among_index f.names c.loop-i.i lt in
    let same = renaming_length c.args.table.now c.loop-i.table (form c.args.node.now) (form c.loop-i.numbered) c.args.avoid.now c.args.free.now c.loop-i.names c.loop-i.i c.loop-i.invariant.renamed in
    record {
      renamed = one_renamed c.args.table.now c.loop-i.table c.new_name.new.table (form c.args.node.now) (form c.loop-i.numbered) (form c.set_slot.new.self) c.args.avoid.now c.args.free.now c.loop-i.names c.new_name.new.names
          c.loop-i.i c.slot-name.result c.slot-number.result c.in_ok-new.new (omega (arith, c.loop-i-test.true, c.slot_count-i-end.ensures)) c.requires.avoided
          c.loop-i.invariant.more c.in_ok-new.ensures.more c.loop-i.invariant.renamed c.slot-name.ensures c.slot-number.ensures c.in_ok-new.ensures.ok c.set_slot.ensures;
      more = λ s k. c.new_name.ensures.more s (c.loop-i.invariant.more s k);
      taken = entered_takes c.args.table.now c.loop-i.table c.new_name.new.table (form c.args.node.now).names c.args.avoid.now c.args.free.now c.loop-i.names c.new_name.new.names c.slot-number.result c.slot-name.result c.in_ok-new.new
          c.in_ok-new.ensures.ok c.loop-i.invariant.taken c.in_ok-new.ensures.taken;
      placed = entered_stands c.loop-i.table c.new_name.new.table (form c.args.node.now).names c.args.avoid.now c.args.free.now c.loop-i.names c.new_name.new.names (form c.loop-i.numbered) (form c.set_slot.new.self)
          c.loop-i.i c.slot-number.result c.slot-name.result c.in_ok-new.new (omega (arith, c.loop-i-test.true, c.slot_count-i-end.ensures, same)) c.in_ok-new.ensures.ok c.set_slot.ensures c.loop-i.invariant.placed;
      count = place_takes c.args.table.now c.loop-i.table c.new_name.new.table f (c.args.avoid.now ++ f.names) c.loop-i.i c.loop-i.invariant.count
          (λ clear. c.new_name.ensures.spared (number_named c.args.table.now c.loop-i.table f (form c.loop-i.numbered) c.args.avoid.now c.args.free.now c.loop-i.names c.loop-i.i c.slot-number.result (g.met.L.LanguageChildren.fits c.args.node.now) lt c.requires.free c.loop-i.invariant.renamed c.slot-number.ensures clear))
          (takes_beside 1 c.loop-i.table c.new_name.new.table c.args.avoid.now (c.args.avoid.now ++ f.names) c.loop-i.names f c.loop-i.invariant.valued
          (is_among-left c.args.avoid.now f.names) (is_among-right c.args.avoid.now f.names) c.new_name.ensures.count);
      valued = values_entered c.loop-i.table c.new_name.new.table f c.args.avoid.now c.args.free.now c.loop-i.names c.new_name.new.names c.loop-i.i c.slot-number.result c.slot-name.result c.in_ok-new.new
          c.in_ok-new.ensures.more there c.requires.avoided c.in_ok-new.ensures.ok c.loop-i.invariant.valued;
      kept = c.new_name.ensures.kept ∙ c.loop-i.invariant.kept;
    }

pub returns-clause-taken : goal.returns-clause-taken
returns-clause-taken g c =
    let form = g.L.LanguageChildren.form in
    all_taken c.args.table.now c.loop-i.table (form c.args.node.now).names c.args.avoid.now c.loop-i.names (form c.loop-i.numbered) c.loop-i.i c.loop-i.invariant.placed c.loop-i.invariant.taken

pub returns-clause-renamed : goal.returns-clause-renamed
returns-clause-renamed g c =
    let form = g.L.LanguageChildren.form in
    all_renamed c.args.table.now c.loop-i.table (form c.args.node.now) (form c.loop-i.numbered) c.args.avoid.now c.args.free.now c.loop-i.names c.loop-i.i (g.met.L.LanguageChildren.fits c.args.node.now)
    (omega (arith, c.loop-i-test.false, c.loop-i.auto.i-end, c.slot_count-i-end.ensures, c.requires.small)) c.loop-i.invariant.renamed

pub returns-clause-count : goal.returns-clause-count
returns-clause-count g c =
    let f = g.L.LanguageChildren.form c.args.node.now in
    at_most_more (binders_below f c.loop-i.i) (binders_below f (length f.names)) (c.args.avoid.now ++ f.names) c.args.table.now c.loop-i.table
    (binders_among f c.loop-i.i (length f.names) (omega (arith, c.loop-i-test.false, c.loop-i.auto.i-end, c.slot_count-i-end.ensures, c.requires.small))) c.loop-i.invariant.count

pub returns-in_err-new-clause-count : goal.returns-in_err-new-clause-count
returns-in_err-new-clause-count g c =
    let form = g.L.LanguageChildren.form in
    let f = form c.args.node.now in
    let ys = c.args.avoid.now ++ f.names in
    let i = c.loop-i.i in
    let lt : i < length f.names = omega (arith, c.loop-i-test.true, c.slot_count-i-end.ensures) in
    at_most_more (binders_below f (i + 1)) (binders_below f (length f.names)) ys c.args.table.now c.new_name.new.table (binders_among f (i + 1) (length f.names) (omega (arith, lt)))
    (place_takes c.args.table.now c.loop-i.table c.new_name.new.table f ys i c.loop-i.invariant.count (λ clear. c.new_name.ensures.spared (number_named c.args.table.now c.loop-i.table f (form c.loop-i.numbered) c.args.avoid.now c.args.free.now c.loop-i.names i c.slot-number.result (g.met.L.LanguageChildren.fits c.args.node.now) lt c.requires.free c.loop-i.invariant.renamed c.slot-number.ensures clear))
    (takes_beside 1 c.loop-i.table c.new_name.new.table c.args.avoid.now ys c.loop-i.names f c.loop-i.invariant.valued
    (is_among-left c.args.avoid.now f.names) (is_among-right c.args.avoid.now f.names) c.new_name.ensures.count))

pub returns-in_err-new-clause-full : goal.returns-in_err-new-clause-full
returns-in_err-new-clause-full g c is =
    let form = g.L.LanguageChildren.form in
    let f = form c.args.node.now in
    let ys = c.args.avoid.now ++ f.names in
    let i = c.loop-i.i in
    let lt : i < length f.names = omega (arith, c.loop-i-test.true, c.slot_count-i-end.ensures) in
    let refused = c.in_err-new.was ∙ slots_handed c.from_residual.result c.in_err-new.field-0.0 c.from_residual.ensures.1 is in
    let out : RunsOut 1 (at_hand c.args.avoid.now c.loop-i.names f) c.loop-i.table c.new_name.new.table = c.new_name.ensures.full refused in
    let needed : ¬ (HasName c.loop-i.names c.args.free.now c.slot-number.result) = c.new_name.ensures.needed refused in
    place_runs_out c.args.table.now c.loop-i.table c.new_name.new.table f ys i (length f.names) lt c.loop-i.invariant.count (λ clear. needed (number_named c.args.table.now c.loop-i.table f (form c.loop-i.numbered) c.args.avoid.now c.args.free.now c.loop-i.names i c.slot-number.result (g.met.L.LanguageChildren.fits c.args.node.now) lt c.requires.free c.loop-i.invariant.renamed c.slot-number.ensures clear))
    (runs_out_beside 1 c.loop-i.table c.new_name.new.table c.args.avoid.now ys c.loop-i.names f c.new_name.ensures.more c.loop-i.invariant.valued
    (is_among-left c.args.avoid.now f.names) (is_among-right c.args.avoid.now f.names) out)

pub slot-name-requires : goal.slot-name-requires
slot-name-requires g c = omega (arith, c.loop-i-test.true, c.slot_count-i-end.ensures)

pub slot-number-requires : goal.slot-number-requires
slot-number-requires g c =
    let form = g.L.LanguageChildren.form in
    let same = renaming_length c.args.table.now c.loop-i.table (form c.args.node.now) (form c.loop-i.numbered) c.args.avoid.now c.args.free.now c.loop-i.names c.loop-i.i c.loop-i.invariant.renamed in
    omega (arith, c.loop-i-test.true, c.slot_count-i-end.ensures, same)

pub set_slot-requires : goal.set_slot-requires
set_slot-requires g c =
    let form = g.L.LanguageChildren.form in
    let same = renaming_length c.args.table.now c.loop-i.table (form c.args.node.now) (form c.loop-i.numbered) c.args.avoid.now c.args.free.now c.loop-i.names c.loop-i.i c.loop-i.invariant.renamed in
    omega (arith, c.loop-i-test.true, c.slot_count-i-end.ensures, same)

pub returns-in_err-new-clause-only : goal.returns-in_err-new-clause-only
returns-in_err-new-clause-only g c = handed_short c.from_residual.result c.in_err-new.field-0.0 c.from_residual.ensures.1 c.in_err-new.ensures.only

pub returns-in_err-new-clause-more : goal.returns-in_err-new-clause-more
returns-in_err-new-clause-more g c z k = c.new_name.ensures.more z (c.loop-i.invariant.more z k)

pub returns-in_err-new-clause-kept : goal.returns-in_err-new-clause-kept
returns-in_err-new-clause-kept g c = c.new_name.ensures.kept ∙ c.loop-i.invariant.kept

pub returns-clause-full : goal.returns-clause-full
returns-clause-full g c is = not_refused c.loop-i.numbered is
