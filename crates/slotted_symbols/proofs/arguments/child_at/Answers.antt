use Rattle.std.specs.Prelude.{◌≡◌, List, get_or, refl}
use Rattle.slotted_symbols.proofs.Steps.{no_slot_there, child_read, child_within}
use Rattle.slotted_symbols.specs.declared.argument.Argument.{Argument}
use Rattle.slotted_symbols.specs.declared.argument.Argument.TheVariants.{Slot, Child}
use Rattle.slotted_symbols.proofs.arguments.child_at.Goals as goal

pub returns-in-Slot-clause-some : goal.returns-in-Slot-clause-some
returns-in-Slot-clause-some c =
    let l : List Argument = c.args.arguments.now in
    let n = c.in_ok-n.n in
    let x = c.in-Slot.field-0 in
    let at : Slot x ≡ get_or l n (Slot x) = (let p = c.index-arguments-n.is in let q = c.in-Slot.is in cc) in
    absurd (no_slot_there l c.args.k n x c.in_ok-n.ensures at)

pub returns-in-Child-clause-some : goal.returns-in-Child-clause-some
returns-in-Child-clause-some c = (λ _. child_within c.args.arguments.now c.args.k c.in_ok-n.n c.in_ok-n.ensures, λ _. refl)

pub returns-in-Child-clause-child : goal.returns-in-Child-clause-child
returns-in-Child-clause-child c =
    let l : List Argument = c.args.arguments.now in
    let n = c.in_ok-n.n in
    let a = c.in-Child.a in
    let at : Child a ≡ get_or l n (Child a) = (let p = c.index-arguments-n.is in let q = c.in-Child.is in cc) in
    child_read l c.args.k n a c.in_ok-n.ensures at
