use Rattle.std.proofs.Common.{◌-◌, List, length}
use Rattle.std.specs.Prelude.{take}
use Rattle.slotted_theory.specs.Nameless.{DTerm}
use Rattle.slotted_check.specs.Lines.{EachLine}
use Rattle.slotted_check.proofs.following.first_fault.Given as goal

abbrev pub invariant-loop-place : goal.invariant-loop-place
invariant-loop-place l = (E : List (DTerm × DTerm)) → EachLine E l.fn.given → EachLine E (take l.place l.fn.lines)

abbrev pub decreases-loop-place : goal.decreases-loop-place
decreases-loop-place l = length l.fn.lines - l.place
