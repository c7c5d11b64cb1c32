-- The texts stand around the place as far as the steps went.
use Rattle.std.proofs.Common.{string_bytes, length}
use Rattle.slotted_terms.specs.Shown.{term_text}
use Rattle.slotted_changes.specs.Changes.{in_marks}
use Rattle.slotted_changes.specs.Steps.{levels_of}
use Rattle.slotted_changes.proofs.Texts.{AreDone}
use Rattle.slotted_changes.proofs.marking.marked_at.Given as goal

abbrev pub invariant-loop-step : goal.invariant-loop-step
invariant-loop-step g l =
    let form = g.L.LanguageChildren.form in
    let written = g.L.Printable.written in
    let place = l.fn.place in
    AreDone written l.table (levels_of form place.steps.items) (levels_of form l.steps.items)
    (in_marks (term_text written l.table place.from.now)) (in_marks (term_text written l.table place.to.now)) (string_bytes l.texts.first) (string_bytes l.texts.second)

abbrev pub decreases-loop-step : goal.decreases-loop-step
decreases-loop-step g l = length l.steps.items
