use Rattle.std.specs.Prelude.{◌≡◌, List, get_or}
use Rattle.std.proofs.Common.{arith}
use Rattle.slotted_symbols.proofs.Splitting.{children_more}
use Rattle.slotted_symbols.proofs.Steps.{child_reached}
use Rattle.slotted_symbols.specs.declared.argument.Argument.{Argument}
use Rattle.slotted_symbols.specs.declared.argument.Argument.TheVariants.{Slot, Child}
use Rattle.slotted_symbols.proofs.arguments.child_index.Goals.{in-Slot, in-Child+else-left-eq0}
use Rattle.slotted_symbols.proofs.arguments.child_index.Goals as goal

pub returns-then-left-eq0 : goal.returns-then-left-eq0
returns-then-left-eq0 c =
    let l : List Argument = c.args.arguments.now in
    let n = c.loop-n.n in
    let a = c.in-Child.field-0 in
    let at : Child a ≡ get_or l n (Child a) = (let p = c.index-arguments-n.is in let q = c.in-Child.is in cc) in
    child_reached l c.args.k n a c.loop-n-test.true at (omega (arith, c.loop-n.invariant, c.if-left-eq0.true))

pub loop-n-preserved : goal.loop-n-preserved
loop-n-preserved c =
    let l : List Argument = c.args.arguments.now in
    let n = c.loop-n.n in
    elim c.match-arguments-n.branch [
      | in-Slot w ↦
          let at : Slot w.in-Slot.field-0 ≡ get_or l n (Slot w.in-Slot.field-0) = (let p = c.index-arguments-n.is in let q = w.in-Slot.is in cc) in
          omega (arith, w.left-is, c.loop-n.invariant, children_more l n (Slot w.in-Slot.field-0) c.loop-n-test.true at)
      | in-Child+else-left-eq0 w ↦
          let at : Child w.in-Child.field-0 ≡ get_or l n (Child w.in-Child.field-0) = (let p = c.index-arguments-n.is in let q = w.in-Child.is in cc) in
          omega (arith, w.left-is, w.if-left-eq0.false, c.loop-n.invariant, children_more l n (Child w.in-Child.field-0) c.loop-n-test.true at)
    ]
