use Rattle.std.proofs.Common.{refl, sym, ◌∙◌}
use Rattle.std.proofs.lemmas.Bool.{false≢true}
use Rattle.slotted_commands.specs.Sessions.{explanation}
use Rattle.slotted_commands.proofs.session.explain.Goals as goal

pub explain_terms-requires-clause-sound : goal.explain_terms-requires-clause-sound
explain_terms-requires-clause-sound g c failed = false≢true (sym c.in_ok-one.ensures.ok.sound_now ∙ failed)

pub explain_terms-requires-clause-left : goal.explain_terms-requires-clause-left
explain_terms-requires-clause-left g c = c.in_ok-one.ensures.ok.left_valid

pub explain_terms-requires-clause-right : goal.explain_terms-requires-clause-right
explain_terms-requires-clause-right g c = c.in_ok-one.ensures.ok.right_valid

pub returns : goal.returns
returns g c =
    let read = c.in_ok-one.ensures.ok in
    explanation c.args.left.now c.args.right.now c.in_ok-one.one c.in_ok-one.two c.read_both.new.graph refl read.sound read.writes c.explain_terms.ensures
