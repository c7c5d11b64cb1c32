use Rattle.std.specs.Prelude.{◌≡◌, ◌+◌, List, drop, get_or}
use Rattle.std.proofs.Common.{ap, ◌∙◌, sym, arith}
use Rattle.std.proofs.lemmas.List.{take_rest}
use Rattle.slotted_nodes.specs.Form.{counted_end}
use Rattle.slotted_symbols.specs.Arguments.{elements, to_child}
use Rattle.slotted_symbols.proofs.Steps.{slot_end, child_end, end_some, end_none}
use Rattle.slotted_symbols.specs.declared.argument.Argument.{Argument}
use Rattle.slotted_symbols.specs.declared.argument.Argument.TheVariants.{Slot, Child}
use Rattle.slotted_symbols.proofs.arguments.scope_end.Goals as goal

pub returns-in-Some : goal.returns-in-Some
returns-in-Some c =
    let l : List Argument = c.args.arguments.now in
    let k = c.locate-k.result.0 in
    let x = c.in-Slot.field-0 in
    let at : Slot x ≡ get_or l k (Slot x) = (let p = c.index-arguments-k.is in let q = c.in-Slot.is in cc) in
    end_some c.args.i c.in-Some.count c.saturating_add.result c.saturating_add-in-Some.result (to_child (elements (drop (k + 1) l))) (c.in-Some.ensures ∙ ap (λ d. counted_end (to_child (elements d))) (take_rest l (k + 1))) (omega (arith, c.saturating_add.ensures)) (omega (arith, c.saturating_add-in-Some.ensures))
    ∙ ap counted_end (sym (slot_end l c.args.i k c.locate-k.result.1 x c.locate-k.ensures at))

pub returns-in-None : goal.returns-in-None
returns-in-None c =
    let l : List Argument = c.args.arguments.now in
    let k = c.locate-k.result.0 in
    let x = c.in-Slot.field-0 in
    let at : Slot x ≡ get_or l k (Slot x) = (let p = c.index-arguments-k.is in let q = c.in-Slot.is in cc) in
    end_none c.args.i (to_child (elements (drop (k + 1) l))) (c.in-None.ensures ∙ ap (λ d. counted_end (to_child (elements d))) (take_rest l (k + 1)))
    ∙ ap counted_end (sym (slot_end l c.args.i k c.locate-k.result.1 x c.locate-k.ensures at))

pub returns-in-Child : goal.returns-in-Child
returns-in-Child c =
    let l : List Argument = c.args.arguments.now in
    let k = c.locate-k.result.0 in
    let a = c.in-Child.field-0 in
    let at : Child a ≡ get_or l k (Child a) = (let p = c.index-arguments-k.is in let q = c.in-Child.is in cc) in
    ap counted_end (sym (child_end l c.args.i k c.locate-k.result.1 a c.locate-k.ensures at))
