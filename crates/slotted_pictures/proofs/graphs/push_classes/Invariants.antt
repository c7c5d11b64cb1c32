-- slots were taken for the classes so far
use Rattle.slotted_pictures.proofs.Taken.{HasTaken}
use Rattle.slotted_pictures.proofs.graphs.push_classes.Given as goal

abbrev pub invariant-loop-class : goal.invariant-loop-class
invariant-loop-class g l = HasTaken l.fn.graph l.class l.graph
