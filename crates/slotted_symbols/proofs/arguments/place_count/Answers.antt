use Rattle.std.specs.Prelude.{◌≡◌, List, get_or}
use Rattle.std.proofs.Common.{arith}
use Rattle.slotted_symbols.proofs.Splitting.{places_more}
use Rattle.slotted_symbols.specs.declared.argument.Argument.{Argument}
use Rattle.slotted_symbols.proofs.arguments.place_count.Goals as goal

pub loop-argument-preserved : goal.loop-argument-preserved
loop-argument-preserved c =
    let l : List Argument = c.args.arguments.now in
    let i = c.loop-argument.argument-index in
    let x = c.argument-item.result in
    let at : x ≡ get_or l i x = (let p = c.argument-item.is in cc) in
    omega (arith, places_more l i x c.loop-argument-test.true at, c.width.ensures, c.saturating_add-count.ensures, c.loop-argument.invariant)
