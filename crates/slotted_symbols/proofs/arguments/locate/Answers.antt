use Rattle.std.specs.Prelude.{◌≡◌, List, get_or}
use Rattle.std.proofs.Common.{arith}
use Rattle.slotted_symbols.proofs.Steps.{locate_step, located}
use Rattle.slotted_symbols.specs.declared.argument.Argument.{Argument}
use Rattle.slotted_symbols.proofs.arguments.locate.Goals as goal

pub returns-then-left-width : goal.returns-then-left-width
returns-then-left-width c =
    let l : List Argument = c.args.arguments.now in
    let k = c.loop-k.k in
    let x = c.index-arguments-k.result in
    let at : x ≡ get_or l k x = (let p = c.index-arguments-k.is in cc) in
    located l c.args.i k c.loop-k.left c.width-width.result x c.loop-k-test.true at c.width-width.ensures c.if-left-width.true c.loop-k.invariant

pub loop-k-preserved : goal.loop-k-preserved
loop-k-preserved c =
    let l : List Argument = c.args.arguments.now in
    let k = c.loop-k.k in
    let x = c.index-arguments-k.result in
    let at : x ≡ get_or l k x = (let p = c.index-arguments-k.is in cc) in
    locate_step l c.args.i k c.loop-k.left c.width-width.result x c.loop-k-test.true at c.width-width.ensures (omega (arith, c.if-left-width.false)) c.loop-k.invariant
