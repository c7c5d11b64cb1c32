use Rattle.std.proofs.Common.{[], ◌∷◌, refl}
use Rattle.std.proofs.lemmas.Result.{err_from_is_err_and}
use Rattle.slotted_explain.specs.Nodes.{to_applied}
use Rattle.slotted_commands.specs.Commands.{adds}
use Rattle.slotted_commands.specs.Sessions.{carried_out, next_term, no_term, done}
use Rattle.slotted_commands.proofs.session.add.Goals as goal

pub returns-in_err-look_up : goal.returns-in_err-look_up
returns-in_err-look_up g c =
    let p = err_from_is_err_and c.from_residual.result c.from_residual.ensures.1 in
    rw (p.1, p.2) (c.in_err-look_up.ensures.err (adds c.args.text.now) tt refl refl)

pub returns : goal.returns
returns g c =
    let one = c.in_ok-look_up.ensures.ok in
    carried_out (one.term ∷ []) (to_applied c.in_ok-look_up.field-0 ∷ []) one.before c.look_up.new.graph one.sound one.writes (next_term one.gains no_term) done
