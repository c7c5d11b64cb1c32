use Rattle.std.proofs.Common.{◌∙◌, inr}
use Rattle.slotted_operations.proofs.CallerLemmas.{takes_twice}
use Rattle.slotted_rules.proofs.FilledValues.{next-filled, next-valid}
use Rattle.slotted_rules.proofs.filling.full_values.Goals as goal

pub full_id-requires : goal.full_id-requires
full_id-requires g c =
    inr (next-valid c.args.graph.now c.loop-name.graph c.args.subst.now.entries c.loop-name.name-iterator c.next.new.self c.loop-name.full.entries
    c.in-Some.name.now c.in-Some.id.now c.loop-name.invariant c.in-Some.ensures.steps c.requires.values)

pub returns-in_err-insert-clause-takes : goal.returns-in_err-insert-clause-takes
returns-in_err-insert-clause-takes g c = takes_twice c.args.graph.now c.loop-name.graph c.full_id.new.self c.loop-name.invariant.takes c.full_id.ensures.takes

pub loop-name-preserved-in_ok-insert : goal.loop-name-preserved-in_ok-insert
loop-name-preserved-in_ok-insert g c =
    next-filled c.args.graph.now c.loop-name.graph c.args.subst.now.entries c.loop-name.name-iterator c.next.new.self c.loop-name.full.entries
    c.in-Some.name.now c.in-Some.id.now c.loop-name.invariant c.in-Some.ensures.steps c.full_id.new.self c.in_ok-name.name c.in_ok-id.id c.insert.new.self.entries
    c.into_iter-name-iterator.ensures.into_iter_gives.5 (c.in_ok-name.ensures.ok ∙ c.as_str.ensures.value)
    c.in_ok-id.ensures.id c.in_ok-id.ensures.fills c.full_id.ensures.takes c.in_ok-insert.ensures.entries

pub loop-name-preserved : goal.loop-name-preserved
loop-name-preserved g c =
    next-filled c.args.graph.now c.loop-name.graph c.args.subst.now.entries c.loop-name.name-iterator c.next.new.self c.loop-name.full.entries
    c.in-Some.name.now c.in-Some.id.now c.loop-name.invariant c.in-Some.ensures.steps c.full_id.new.self c.in_ok-name.name c.in_ok-id.id c.insert.new.self.entries
    c.into_iter-name-iterator.ensures.into_iter_gives.5 (c.in_ok-name.ensures.ok ∙ c.as_str.ensures.value)
    c.in_ok-id.ensures.id c.in_ok-id.ensures.fills c.full_id.ensures.takes c.in_ok-insert.ensures.entries
