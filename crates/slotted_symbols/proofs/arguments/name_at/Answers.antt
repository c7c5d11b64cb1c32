use Rattle.std.specs.Prelude.{◌≡◌, List, get_or}
use Rattle.std.proofs.Common.{◌∙◌, sym}
use Rattle.std.proofs.lemmas.Option.{get_or_from_slice_get}
use Rattle.slotted_slots.specs.Maps.{values}
use Rattle.slotted_symbols.proofs.Steps.{child_place_at, slot_named, value_named}
use Rattle.slotted_symbols.specs.declared.argument.Argument.{Argument}
use Rattle.slotted_symbols.specs.declared.argument.Argument.TheVariants.{Slot, Child}
use Rattle.slotted_symbols.proofs.arguments.name_at.Goals as goal

pub value_at-requires : goal.value_at-requires
value_at-requires c =
    let l : List Argument = c.args.arguments.now in
    let k = c.locate-k.result.0 in
    let a = c.in-Child.a in
    let at : Child a ≡ get_or l k (Child a) = (let p = c.index-arguments-k.is in let q = c.in-Child.is in cc) in
    child_place_at l c.args.i k c.locate-k.result.1 a c.locate-k.ensures at

pub returns-in-Slot : goal.returns-in-Slot
returns-in-Slot c =
    let l : List Argument = c.args.arguments.now in
    let k = c.locate-k.result.0 in
    let x = c.in-Slot.x in
    let at : Slot x ≡ get_or l k (Slot x) = (let p = c.index-arguments-k.is in let q = c.in-Slot.is in cc) in
    sym (slot_named l c.args.i k c.locate-k.result.1 x c.locate-k.ensures at)

pub returns-in-Child : goal.returns-in-Child
returns-in-Child c =
    let l : List Argument = c.args.arguments.now in
    let k = c.locate-k.result.0 in
    let j = c.locate-k.result.1 in
    let a = c.in-Child.a in
    let at : Child a ≡ get_or l k (Child a) = (let p = c.index-arguments-k.is in let q = c.in-Child.is in cc) in
    sym (get_or_from_slice_get (values a.m) j c.value_at.result 0 c.value_at.ensures) ∙ sym (value_named l c.args.i k j a c.locate-k.ensures at)
