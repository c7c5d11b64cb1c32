use Rattle.slotted_lines.proofs.Reading.{ReadSoFar}
use Rattle.slotted_lines.specs.States.{AreSearchable, state_of}
use Rattle.slotted_lines.proofs.stream.answer_each.Given as goal

abbrev pub invariant-loop : goal.invariant-loop
invariant-loop g l =
    ReadSoFar g.L.LanguageChildren.read g.L.Printable.written g.L.LanguageChildren.form (state_of l.initial.session) (state_of l.session) (g.R.Read.remaining l.initial.input) (g.R.Read.remaining l.input) (g.W.Write.contents l.initial.output) (g.W.Write.contents l.output)
    × AreSearchable g.L.LanguageChildren.form (state_of l.session)
