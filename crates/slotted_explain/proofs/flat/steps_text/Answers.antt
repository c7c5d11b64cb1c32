-- Each turn takes the slots of one step more.
use Rattle.std.proofs.Common.{◌<◌, length, sym, arith, rules}
use Rattle.slotted_graph.proofs.CallerLemmas.{takes_twice}
use Rattle.slotted_explain.proofs.SlotsOfSteps.{all_make, step_lacks, step_makes}
use Rattle.slotted_explain.proofs.flat.steps_text.Goals as goal

pub returns-in_err-take_step-clause-count : goal.returns-in_err-take_step-clause-count
returns-in_err-take_step-clause-count g c =
    let lt : c.loop-step.step-index < length c.args.steps.now = omega (arith, c.loop-step-test.true) in
    all_make c.args.graph.now c.loop-step.graph c.take_step.new.graph c.args.steps.now c.loop-step.step-index c.step-item.result lt (sym c.step-item.is) c.loop-step.invariant.takes.reads.image c.loop-step.invariant.made c.take_step.ensures.count

pub returns-in_err-take_step-clause-full : goal.returns-in_err-take_step-clause-full
returns-in_err-take_step-clause-full g c e =
    let lt : c.loop-step.step-index < length c.args.steps.now = omega (arith, c.loop-step-test.true) in
    step_lacks c.args.graph.now c.loop-step.graph c.take_step.new.graph c.args.steps.now c.loop-step.step-index c.step-item.result lt (sym c.step-item.is) c.loop-step.invariant.takes.reads.image c.loop-step.invariant.made (c.in_err-take_step.ensures.full (search rules))

pub loop-step-preserved : goal.loop-step-preserved
loop-step-preserved g c =
    let lt : c.loop-step.step-index < length c.args.steps.now = omega (arith, c.loop-step-test.true) in
    let inv = c.loop-step.invariant in
    record {
      takes = takes_twice c.args.graph.now c.loop-step.graph c.take_step.new.graph inv.takes c.take_step.ensures.takes;
      made = step_makes c.args.graph.now c.loop-step.graph c.take_step.new.graph c.args.steps.now c.loop-step.step-index c.step-item.result lt (sym c.step-item.is) inv.takes.reads.image inv.made c.take_step.ensures.count;
    }
