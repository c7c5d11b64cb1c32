use Rattle.slotted_check.proofs.Lifted.{opened-two, left-two}
use Rattle.slotted_check.proofs.pieces.meet_pieces.Goals as goal

pub returns-in-Scope-Scope-clause-some : goal.returns-in-Scope-Scope-clause-some
returns-in-Scope-Scope-clause-some c = rw (c.in-Scope-Scope.is-0, c.in-Scope-Scope.is-1) (opened-two c.deeper.result c.args.depth _ _ c.deeper.ensures)

pub returns-in-Leave-Leave-clause-some : goal.returns-in-Leave-Leave-clause-some
returns-in-Leave-Leave-clause-some c = rw (c.in-Leave-Leave.is-0, c.in-Leave-Leave.is-1) (left-two c.shallower.result c.args.depth _ _ c.shallower.ensures)
