use Rattle.slotted_matching.proofs.VariableNumbers.{number-here, none-more, none-in-all}
use Rattle.slotted_matching.proofs.compile.number_of.Goals as goal

pub returns-then-eq : goal.returns-then-eq
returns-then-eq c =
    number-here c.args.variables.now c.loop-k.k c.args.name.now c.index-variables-k.result c.loop-k-test.true c.index-variables-k.is c.as_str.result.now c.eq.result c.as_str.ensures.value c.eq.ensures c.if-eq.true

pub loop-k-preserved : goal.loop-k-preserved
loop-k-preserved c =
    none-more c.args.variables.now c.loop-k.k c.args.name.now c.index-variables-k.result c.loop-k-test.true c.index-variables-k.is c.as_str.result.now c.eq.result c.as_str.ensures.value c.eq.ensures c.if-eq.false c.loop-k.invariant

pub returns : goal.returns
returns c = none-in-all c.args.variables.now c.loop-k.k c.args.name.now c.loop-k-test.false c.loop-k.invariant
