use Rattle.std.proofs.Common.{◌≡◌, ◌<◌, ◌∷◌, [], ap, sym, ◌∙◌, subst, arith, length, map, get_or, List}
use Rattle.std.proofs.lemmas.List.{length-map, get_or-map, map-append}
use Rattle.slotted_lists.proofs.Contained.{Contains-get_or}
use Rattle.slotted_proofs.specs.Equations.{to_applied}
use Rattle.slotted_classes.specs.StateOf.{state_of}
use Rattle.slotted_match_machine.specs.declared.answer.Occurrence.{Occurrence as OccurrenceRead}
use Rattle.slotted_match_machine.specs.Machine.{no_occurrence}
use Rattle.slotted_match_machine.specs.Answers.{occurrence_in}
use Rattle.slotted_match_machine.specs.Readings.{IsWholeId, read_id}
use Rattle.slotted_matching.specs.Naming.{slot_in}
use Rattle.slotted_matching.proofs.AnsweredIds.{ids-step}
use Rattle.slotted_matching.proofs.answers.push_ids.Goals as goal

pub bounds-values-number : goal.bounds-values-number
bounds-values-number g c =
    let w = c.requires.whole (get_or c.args.order.now c.loop-number.number-index 0) (Contains-get_or c.args.order.now c.loop-number.number-index 0 c.loop-number-test.true) in
    omega (arith, w.0, length-map c.args.answer.now.values.items occurrence_in, ap length c.as_slice-values.ensures.value)

pub offset_bounds-values-number : goal.offset_bounds-values-number
offset_bounds-values-number g c =
    let w = c.requires.whole (get_or c.args.order.now c.loop-number.number-index 0) (Contains-get_or c.args.order.now c.loop-number.number-index 0 c.loop-number-test.true) in
    omega (arith, w.0, length-map c.args.answer.now.values.items occurrence_in, ap length c.as_slice-values.ensures.value, c.as_slice-values.type_inv)

pub named_id-requires-clause-whole : goal.named_id-requires-clause-whole
named_id-requires-clause-whole g c =
    let n = get_or c.args.order.now c.loop-number.number-index 0 in
    let w = c.requires.whole n (Contains-get_or c.args.order.now c.loop-number.number-index 0 c.loop-number-test.true) in
    let vs = c.args.answer.now.values.items in
    let l : n < length vs = omega (arith, w.0, length-map vs occurrence_in) in
    let x = c.index-values-number.result in
    let is : x ≡ get_or vs n x = c.index-values-number.is ∙ ap (λ (us : List OccurrenceRead). get_or us n x) c.as_slice-values.ensures.value in
    subst (IsWholeId (state_of c.args.store.now)) (get_or-map occurrence_in vs n x no_occurrence l ∙ ap occurrence_in (sym is)) w.1

pub loop-number-preserved : goal.loop-number-preserved
loop-number-preserved g c =
    let n = get_or c.args.order.now c.loop-number.number-index 0 in
    let w = c.requires.whole n (Contains-get_or c.args.order.now c.loop-number.number-index 0 c.loop-number-test.true) in
    let vs = c.args.answer.now.values.items in
    let l : n < length vs = omega (arith, w.0, length-map vs occurrence_in) in
    let x = c.index-values-number.result in
    let is : x ≡ get_or vs n x = c.index-values-number.is ∙ ap (λ (us : List OccurrenceRead). get_or us n x) c.as_slice-values.ensures.value in
    let at : get_or (map occurrence_in vs) n no_occurrence ≡ occurrence_in x = get_or-map occurrence_in vs n x no_occurrence l ∙ ap occurrence_in (sym is) in
    ap (map to_applied) c.in_ok-push.ensures.items
    ∙ (map-append to_applied c.loop-number.ids.items (c.in_ok-named_id.field-0 ∷ [])
    ∙ ids-step c.args.store.now c.args.names.now c.args.order.now (map occurrence_in vs) c.loop-number.number-index (map to_applied c.args.ids.now.items)
    (map to_applied c.loop-number.ids.items) (to_applied c.in_ok-named_id.field-0) c.loop-number-test.true c.loop-number.invariant
    (c.in_ok-named_id.ensures.ok ∙ ap (read_id (state_of c.args.store.now) (slot_in c.args.names.now)) (sym at)))
