-- A pattern gives way to its child patterns.
use Rattle.std.proofs.Common.{ap, subst, arith}
use Rattle.slotted_patterns.specs.View.{tree_of}
use Rattle.slotted_matching.specs.Wanted.{wanted}
use Rattle.slotted_matching.proofs.WantedPatterns.{LeftOver, left-smaller, left-step, wanted-pop, wanted_size}
use Rattle.slotted_matching.proofs.compile.Compiler.add.Goals as goal

pub loop-next-smaller : goal.loop-next-smaller
loop-next-smaller g c =
    let form = g.L.LanguageChildren.form in
    let last = wanted-pop form c.loop-next.left.items c.pop.new.self.items c.pop.result c.in-Some.next c.pop.ensures.items c.in-Some.is in
    let less = left-smaller c.args.skeletons.now c.loop-next.self c.step.new.self (tree_of form c.in-Some.next.pattern.now) c.in-Some.next.from (wanted form c.pop.new.self.items) (wanted form c.step.new.left.items) c.in_ok-step.ensures.ok in
    omega (arith, less, ap wanted_size last)

pub loop-next-preserved : goal.loop-next-preserved
loop-next-preserved g c =
    let form = g.L.LanguageChildren.form in
    let S = c.args.skeletons.now in
    let t = tree_of form c.args.pattern.now in
    let last = wanted-pop form c.loop-next.left.items c.pop.new.self.items c.pop.result c.in-Some.next c.pop.ensures.items c.in-Some.is in
    left-step S c.args.self.now c.loop-next.self c.step.new.self t c.args.from (tree_of form c.in-Some.next.pattern.now) c.in-Some.next.from (wanted form c.pop.new.self.items) (wanted form c.step.new.left.items)
    (subst (LeftOver S c.args.self.now c.loop-next.self t c.args.from) last c.loop-next.invariant) c.in_ok-step.ensures.ok c.in_ok-step.ensures.slots
