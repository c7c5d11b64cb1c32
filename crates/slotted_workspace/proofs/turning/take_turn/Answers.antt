use Rattle.slotted_workspace.proofs.Turns.{turn-refused, turn-taken}
use Rattle.slotted_workspace.proofs.turning.take_turn.Goals as goal

pub returns-clause-ok : goal.returns-clause-ok
returns-clause-ok g c =
    let e = c.apply_counted.ensures in
    turn-taken g.L.LanguageChildren.form c.args.rules.now c.args.graph.now c.apply_counted.new.graph e.extends e.stays c.apply_counted.result e.counts e.changed e.failed e.fails

pub returns-clause-err : goal.returns-clause-err
returns-clause-err g c =
    let e = c.apply_counted.ensures in
    turn-refused g.L.LanguageChildren.form c.args.rules.now c.args.graph.now c.apply_counted.new.graph e.extends e.stays c.apply_counted.result e.failed e.fails e.err
