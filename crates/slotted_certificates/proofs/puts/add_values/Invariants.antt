use Rattle.std.proofs.Common.{List, length}
use Rattle.std.specs.Prelude.{map}
use Rattle.slotted_check.specs.declared.pieces.Piece.{Piece}
use Rattle.slotted_certificates.specs.Puts.{AreValues}
use Rattle.slotted_certificates.proofs.puts.add_values.Given as goal

abbrev pub invariant-loop-rest : goal.invariant-loop-rest
invariant-loop-rest l = (all : List (List Piece)) → AreValues l.binders (map (λ v. v.items) l.values.items) l.rest all → AreValues l.binders (map (λ v. v.items) l.fn.values.items) l.fn.puts all

abbrev pub decreases-loop-rest : goal.decreases-loop-rest
decreases-loop-rest l = length l.rest
