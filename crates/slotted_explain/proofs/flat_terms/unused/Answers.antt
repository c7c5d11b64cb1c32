-- All numbers are used.
use Rattle.std.proofs.Common.{◌≤◌, length, arith}
use Rattle.slotted_explain.proofs.UsedNumbers.{numbers-few}
use Rattle.slotted_explain.proofs.flat_terms.unused.Goals as goal

pub returns-clause-none : goal.returns-clause-none
returns-clause-none c =
    let few : c.loop-n.n ≤ length c.args.used.now = numbers-few c.args.used.now c.loop-n.n c.loop-n.invariant in
    omega arith
