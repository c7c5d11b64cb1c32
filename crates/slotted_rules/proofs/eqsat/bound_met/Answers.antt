-- The clock is read where neither saturation nor the limit of turns stops the run.
use Rattle.std.proofs.Common.{ap}
use Rattle.std.specs.Prelude.{not}
use Rattle.slotted_rules.proofs.EqsatTurns.{late, early}
use Rattle.slotted_rules.proofs.eqsat.bound_met.Goals as goal

pub returns-then-elapsed-bounds : goal.returns-then-elapsed-bounds
returns-then-elapsed-bounds g c =
    late g.K.Clock.tells c.args.bounds.iterations c.args.bounds.seconds c.args.bounds.start c.args.counted (not c.args.changed) c.args.clock.now c.now.new.self c.now.result c.now.ensures (ap not c.if-not-changed.false) c.if-counted-bounds.false c.saturating_sub-elapsed.result
    c.saturating_sub-elapsed.ensures c.if-elapsed-bounds.true

pub returns : goal.returns
returns g c =
    early g.K.Clock.tells c.args.bounds.iterations c.args.bounds.seconds c.args.bounds.start c.args.counted (not c.args.changed) c.args.clock.now c.now.new.self c.now.result c.now.ensures (ap not c.if-not-changed.false) c.if-counted-bounds.false c.saturating_sub-elapsed.result
    c.saturating_sub-elapsed.ensures c.if-elapsed-bounds.false
