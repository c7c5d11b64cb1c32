use Rattle.slotted_hashcons.specs.WellFiled.{state_in}
use Rattle.slotted_rebuilding.specs.Turns.{RebuildsSoFar}
use Rattle.slotted_rebuilding.specs.Work.{work}
use Rattle.slotted_rebuilding.proofs.rebuilding.take_turns.Given as goal

abbrev pub invariant-loop-class : goal.invariant-loop-class
invariant-loop-class g l = RebuildsSoFar l.fn.store l.fn.nodes l.store l.nodes l.turns

abbrev pub decreases-loop-class : goal.decreases-loop-class
decreases-loop-class g l = work (state_in l.store l.nodes)
