use Rattle.std.specs.Prelude.{◌≡◌, List, get_or, refl}
use Rattle.slotted_symbols.proofs.Steps.{child_place_at, slot_set, value_set}
use Rattle.slotted_symbols.specs.declared.argument.Argument.{Argument}
use Rattle.slotted_symbols.specs.declared.argument.Argument.TheVariants.{Slot, Child}
use Rattle.slotted_symbols.proofs.arguments.set_name_at.Goals as goal

pub set_value_at-requires : goal.set_value_at-requires
set_value_at-requires c =
    let l : List Argument = c.args.arguments.now in
    let k = c.locate-k.result.0 in
    let a = c.in-Child.a in
    let at : Child a ≡ get_or l k (Child a) = (let p = c.index-arguments-k.is in let q = c.in-Child.is in cc) in
    child_place_at l c.args.i k c.locate-k.result.1 a c.locate-k.ensures at

pub returns-in-Slot : goal.returns-in-Slot
returns-in-Slot c =
    let l : List Argument = c.args.arguments.now in
    let k = c.locate-k.result.0 in
    let x = c.in-Slot.x in
    let at : Slot x ≡ get_or l k (Slot x) = (let p = c.index-arguments-k.is in let q = c.in-Slot.is in cc) in
    slot_set l c.args.i k c.locate-k.result.1 x c.args.s c.locate-k.ensures at

pub returns-in-Child : goal.returns-in-Child
returns-in-Child c =
    let l : List Argument = c.args.arguments.now in
    let k = c.locate-k.result.0 in
    let a = c.in-Child.a in
    let at : Child a ≡ get_or l k (Child a) = (let p = c.index-arguments-k.is in let q = c.in-Child.is in cc) in
    value_set l c.args.i k c.locate-k.result.1 c.args.s a _ c.locate-k.ensures at refl c.set_value_at.ensures
