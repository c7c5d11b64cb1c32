use Rattle.std.proofs.Common.{refl, sym}
use Rattle.slotted_commands.specs.Sessions.{unknown}
use Rattle.slotted_lines.specs.AnsweredIn.{answered}
use Rattle.slotted_lines.specs.States.{state_of}
use Rattle.slotted_lines.proofs.Telling.{rule-answered, run-answered}
use Rattle.slotted_lines.proofs.Knowing.{answered-failed, answered-more, kept-rules}
use Rattle.slotted_lines.proofs.answering.answer_in.Goals as goal

pub returns-in-Rule-clause-answers : goal.returns-in-Rule-clause-answers
returns-in-Rule-clause-answers g c =
    rw (c.tell_rule.ensures, sym c.in-Rule.ensures)
    (rule-answered g.L.LanguageChildren.read g.L.Printable.written g.L.LanguageChildren.form (state_of c.args.session.now) (state_of c.add_rule.new.session) _ _ _ c.add_rule.result c.add_rule.ensures.answers)

pub returns-in-Run-clause-answers : goal.returns-in-Run-clause-answers
returns-in-Run-clause-answers g c =
    let o = c.run_rules-outcome in
    rw (c.tell_run.ensures, sym c.in-Run.ensures, c.rebuild_totals-before.ensures.still (λ n x. refl), c.rebuild_totals-after.ensures.still (λ n x. refl))
    (run-answered g.L.LanguageChildren.read g.L.Printable.written g.L.LanguageChildren.form (state_of c.args.session.now) (state_of o.new.session) _ o.result o.ensures.answers)

pub returns-in-Plain-clause-answers : goal.returns-in-Plain-clause-answers
returns-in-Plain-clause-answers g c = rw (sym c.in-Plain.ensures) (answered c.answer.ensures refl)

pub returns-in-Plain-clause-valid : goal.returns-in-Plain-clause-valid
returns-in-Plain-clause-valid g c =
    let read = g.L.LanguageChildren.read in
    let written = g.L.Printable.written in
    let before = c.args.session.now.graph in
    let after = c.answer.new.graph in
    kept-rules g.L.LanguageChildren.form before after c.args.session.now.rules.items (answered-more read written before after _ c.answer.result c.answer.ensures)
    (answered-failed read written before after _ c.answer.result c.answer.ensures) c.requires

pub returns-in-Unknown-clause-answers : goal.returns-in-Unknown-clause-answers
returns-in-Unknown-clause-answers g c = rw (sym c.in-Unknown.ensures) (answered (unknown refl refl) refl)
