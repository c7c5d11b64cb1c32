use Rattle.std.proofs.Common.{subst}
use Rattle.std.specs.Prelude.{IfSome, OnOk}
use Rattle.std.specs.Io.KnownBytes.{Appends}
use Rattle.slotted_lines.specs.States.{SessionState}
use Rattle.slotted_lines.specs.Streams.{WritesFrom}
use Rattle.slotted_lines.proofs.Knowing.{empty-searched}
use Rattle.slotted_lines.proofs.stream.answer_session.Goals as goal

pub answer_each-outcome-requires : goal.answer_each-outcome-requires
answer_each-outcome-requires g c = empty-searched g.L.LanguageChildren.form _ c.in-Ok.ensures.empty

pub returns-in-Ok-clause-answers : goal.returns-in-Ok-clause-answers
returns-in-Ok-clause-answers g c =
    subst (λ (x : SessionState g.row.L.Denot). OnOk c.answer_each-outcome.result (IfSome (g.R.Read.remaining c.args.input.now) (λ bytes. WritesFrom g.L.LanguageChildren.read g.L.Printable.written g.L.LanguageChildren.form x bytes (Appends (g.W.Write.contents c.args.output.now) (g.W.Write.contents c.answer_each-outcome.new.output)))))
    c.in-Ok.ensures.empty c.answer_each-outcome.ensures.answers
