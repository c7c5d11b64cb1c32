use Rattle.std.proofs.Common.{Ok, inr, refl}
use Rattle.slotted_graph.proofs.Extending.{extends-takes}
use Rattle.slotted_commands.proofs.Steps.{sound_graph}
use Rattle.slotted_workspace.proofs.drawing.dumped.Goals as goal

pub returns-in_err-dump-clause-extends : goal.returns-in_err-dump-clause-extends
returns-in_err-dump-clause-extends g c = inr (extends-takes c.args.graph.now c.dump.new.self c.in_err-dump.ensures.takes)

pub returns-clause-extends : goal.returns-clause-extends
returns-clause-extends g c = inr (extends-takes c.args.graph.now c.dump.new.self c.in_ok-dump.ensures.takes)

pub returns-clause-ok : goal.returns-clause-ok
returns-clause-ok g c =
    let done = c.in_ok-dump in
    (sound_graph c.args.graph.now.failed (Ok done.field-0) done.field-0 refl done.ensures.failed.1, done.ensures.takes)
