use Rattle.std.specs.Prelude.{◌≡◌, List, take, get_or}
use Rattle.std.proofs.Common.{arith}
use Rattle.std.proofs.lemmas.List.{length-map, length-take}
use Rattle.slotted_symbols.specs.Arguments.{element, elements}
use Rattle.slotted_symbols.specs.Trees.{applied_count-within}
use Rattle.slotted_symbols.proofs.Splitting.{children_more}
use Rattle.slotted_symbols.specs.declared.argument.Argument.{Argument}
use Rattle.slotted_symbols.specs.declared.argument.Argument.TheVariants.{Slot, Child}
use Rattle.slotted_symbols.proofs.arguments.child_count.Goals.{in-Slot, in-Child}
use Rattle.slotted_symbols.proofs.arguments.child_count.Goals as goal

pub overflow_add-count : goal.overflow_add-count
overflow_add-count c =
    let l : List Argument = c.args.arguments.now in
    let i = c.loop-argument.argument-index in
    omega (arith, c.loop-argument.invariant, applied_count-within (elements (take i l)), length-map (take i l) element, length-take i l, c.requires, c.loop-argument-test.true)

pub loop-argument-preserved : goal.loop-argument-preserved
loop-argument-preserved c =
    let l : List Argument = c.args.arguments.now in
    let i = c.loop-argument.argument-index in
    elim c.match-argument.branch [
      | in-Slot w ↦
          let at : Slot w.in-Slot.field-0 ≡ get_or l i (Slot w.in-Slot.field-0) = (let p = c.argument-item.is in let q = w.in-Slot.is in cc) in
          omega (arith, w.count-is, c.loop-argument.invariant, children_more l i (Slot w.in-Slot.field-0) c.loop-argument-test.true at)
      | in-Child w ↦
          let at : Child w.in-Child.field-0 ≡ get_or l i (Child w.in-Child.field-0) = (let p = c.argument-item.is in let q = w.in-Child.is in cc) in
          omega (arith, w.count-is, c.loop-argument.invariant, children_more l i (Child w.in-Child.field-0) c.loop-argument-test.true at)
    ]
