use Rattle.std.proofs.Common.{◌≡◌, ◌++◌, length}
use Rattle.slotted_check.specs.Rows.{lifts, moved_row}
use Rattle.slotted_certificates.specs.Scopes.{numbering}
use Rattle.slotted_certificates.proofs.instances.push_value.Given as goal

abbrev pub invariant-loop-rest : goal.invariant-loop-rest
invariant-loop-rest l = l.row.items ++ moved_row (lifts l.depth (numbering l.scopes)) l.rest ≡ l.fn.row.items ++ moved_row (numbering l.scopes) l.fn.value

abbrev pub decreases-loop-rest : goal.decreases-loop-rest
decreases-loop-rest l = length l.rest
