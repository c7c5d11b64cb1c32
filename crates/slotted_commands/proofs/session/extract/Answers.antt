use Rattle.std.proofs.Common.{[], ◌∷◌, refl, sym, ◌∙◌}
use Rattle.std.proofs.lemmas.Bool.{false≢true}
use Rattle.std.proofs.lemmas.Result.{err_from_is_err_and}
use Rattle.slotted_explain.specs.Nodes.{to_applied}
use Rattle.slotted_commands.specs.Commands.{extracts}
use Rattle.slotted_commands.specs.Sessions.{carried_out, extraction, next_term, no_term}
use Rattle.slotted_commands.proofs.session.extract.Goals as goal

pub returns-in_err-id : goal.returns-in_err-id
returns-in_err-id g c =
    let p = err_from_is_err_and c.from_residual.result c.from_residual.ensures.1 in
    rw (p.1, p.2) (c.in_err-id.ensures.err (extracts c.args.text.now) tt refl refl)

pub extract_term-requires-clause-sound : goal.extract_term-requires-clause-sound
extract_term-requires-clause-sound g c failed = false≢true (sym c.in_ok-id.ensures.ok.gains.sound ∙ failed)

pub extract_term-requires-clause-found : goal.extract_term-requires-clause-found
extract_term-requires-clause-found g c = c.in_ok-id.ensures.ok.gains.found

pub returns : goal.returns
returns g c =
    let one = c.in_ok-id.ensures.ok in
    carried_out (one.term ∷ []) (to_applied c.in_ok-id.id ∷ []) one.before c.look_up.new.graph one.sound one.writes (next_term one.gains no_term) (extraction c.extract_term.ensures)
