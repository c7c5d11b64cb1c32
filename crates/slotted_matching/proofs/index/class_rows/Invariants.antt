use Rattle.slotted_matching.specs.Indexed.{AreClassRows}
use Rattle.slotted_matching.proofs.index.class_rows.Given as goal

abbrev pub invariant-loop-class : goal.invariant-loop-class
invariant-loop-class g l = AreClassRows l.store l.nodes l.skeletons l.class l.classes.items
