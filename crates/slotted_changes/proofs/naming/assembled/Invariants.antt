use Rattle.std.proofs.Common.{length}
use Rattle.slotted_changes.proofs.naming.assembled.Given as goal

abbrev pub decreases-loop-flat : goal.decreases-loop-flat
decreases-loop-flat g l = length l.nodes.items
