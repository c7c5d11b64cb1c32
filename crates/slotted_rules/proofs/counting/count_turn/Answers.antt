-- The graph's measure before and after.
use Rattle.std.proofs.Common.{◌≡◌, false}
use Rattle.slotted_lists.proofs.Booleans.{unless-true}
use Rattle.slotted_rules.proofs.AppliedRules.{ok-well}
use Rattle.slotted_rules.proofs.Progress.{progressed, same_measure}
use Rattle.slotted_rules.proofs.counting.count_turn.Goals as goal

pub returns-clause-changed : goal.returns-clause-changed
unfolding same_measure
returns-clause-changed g c =
    let a = c.count_and_modify.new.graph in
    let well : a.failed ≡ false = ok-well _ a.failed c.count_and_modify.result c.in_ok-counts.counts c.in_ok-counts.was c.count_and_modify.ensures.fails in
    progressed c.args.graph.now.image a.image c.progress-before.result c.progress.result
    (unless-true c.args.graph.now.failed c.requires.well c.progress-before.ensures.measure)
    (unless-true a.failed well c.progress.ensures.measure)
    c.ne.result c.ne.ensures
