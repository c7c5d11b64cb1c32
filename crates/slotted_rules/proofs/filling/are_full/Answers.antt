-- One more value lacks no name.
use Rattle.slotted_rules.proofs.FilledValues.{one-full}
use Rattle.slotted_rules.proofs.filling.are_full.Goals as goal

pub loop-name-preserved : goal.loop-name-preserved
loop-name-preserved g c =
    one-full c.args.graph.now c.args.subst.now.entries c.loop-name._name-iterator c.next.new.self c.loop-name.invariant.0 c.in-Some._name.now c.in-Some.id.now
    c.loop-name.invariant.1 c.loop-name.invariant.2 c.in-Some.ensures.steps (c.is_full.ensures.0 c.if-not-is_full.false).1
