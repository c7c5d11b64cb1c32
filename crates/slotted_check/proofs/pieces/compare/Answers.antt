use Rattle.slotted_check.proofs.Lifted.{opened-both, left-both}
use Rattle.slotted_check.proofs.pieces.compare.Goals as goal

pub returns-in-Scope-Scope-clause-some : goal.returns-in-Scope-Scope-clause-some
returns-in-Scope-Scope-clause-some c = rw (c.in-Scope-Scope.is-0, c.in-Scope-Scope.is-1) (opened-both c.deeper.result c.args.depth _ c.deeper.ensures)

pub returns-in-Leave-Leave-clause-some : goal.returns-in-Leave-Leave-clause-some
returns-in-Leave-Leave-clause-some c = rw (c.in-Leave-Leave.is-0, c.in-Leave-Leave.is-1) (left-both c.shallower.result c.args.depth _ c.shallower.ensures)
