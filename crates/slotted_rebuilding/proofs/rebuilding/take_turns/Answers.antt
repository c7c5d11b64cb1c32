use Rattle.std.proofs.Common.{◌∙◌, sym, rules}
use Rattle.slotted_rebuilding.proofs.KeptSlots.{grows-then}
use Rattle.slotted_rebuilding.proofs.LargeClasses.{large-grown, large-unaligned, same-error}
use Rattle.slotted_rebuilding.proofs.Rebuilds.{settled-first, one-more, less-work, nothing-left}
use Rattle.slotted_rebuilding.proofs.rebuilding.take_turns.Goals as goal

pub returns-in_err-settle_all-clause-full : goal.returns-in_err-settle_all-clause-full
returns-in_err-settle_all-clause-full g c h = large-unaligned c.args.store.now (c.in_err-settle_all.ensures.full (same-error c.from_residual.result c.in_err-settle_all.field-0.0 _ c.from_residual.ensures.1 h))

pub take_turn-requires-clause-good : goal.take_turn-requires-clause-good
take_turn-requires-clause-good g c = c.loop-class.invariant.filed

pub take_turn-requires-clause-first : goal.take_turn-requires-clause-first
take_turn-requires-clause-first g c = sym c.front.ensures.front ∙ c.in-Some.is

pub returns-in_err-take_turn-clause-full : goal.returns-in_err-take_turn-clause-full
returns-in_err-take_turn-clause-full g c h = large-grown c.args.store.now c.loop-class.store c.loop-class.invariant.grows (c.in_err-take_turn.ensures.full (same-error c.from_residual-in_err-take_turn.result c.in_err-take_turn.field-0.0 _ c.from_residual-in_err-take_turn.ensures.1 h))

pub settle_all-requires-in-Some : goal.settle_all-requires-in-Some
settle_all-requires-in-Some g c = record { good = c.in_ok-take_turn.ensures.ok.filed }

pub returns-in_err-settle_all-2-clause-full : goal.returns-in_err-settle_all-2-clause-full
returns-in_err-settle_all-2-clause-full g c h =
    let k = c.args.store.now in
    let m = c.take_turn.new.store in
    large-grown k m (grows-then k c.loop-class.store m c.loop-class.invariant.grows c.in_ok-take_turn.ensures.ok.grows) (large-unaligned m (c.in_err-settle_all-2.ensures.full (same-error c.from_residual-in_err-settle_all-2.result c.in_err-settle_all-2.field-0.0 _ c.from_residual-in_err-settle_all-2.ensures.1 h)))

pub loop-class-init : goal.loop-class-init
loop-class-init g c = settled-first c.args.store.now c.args.nodes.now c.settle_all.new.store c.settle_all.new.nodes c.in_ok-settle_all.ensures.ok

pub loop-class-preserved : goal.loop-class-preserved
loop-class-preserved g c =
    one-more c.args.store.now c.args.nodes.now c.loop-class.store c.loop-class.nodes c.loop-class.turns c.loop-class.invariant c.take_turn.new.store c.take_turn.new.nodes c.in_ok-take_turn.ensures.ok
    c.settle_all-in-Some.new.store c.settle_all-in-Some.new.nodes c.in_ok-settle_all-2.ensures.ok c.saturating_add-turns.result (search rules)

pub loop-class-smaller : goal.loop-class-smaller
loop-class-smaller g c =
    less-work c.args.store.now c.args.nodes.now c.loop-class.store c.loop-class.nodes c.loop-class.turns c.loop-class.invariant c.take_turn.new.store c.take_turn.new.nodes c.in_ok-take_turn.ensures.ok
    c.settle_all-in-Some.new.store c.settle_all-in-Some.new.nodes c.in_ok-settle_all-2.ensures.ok

pub returns-clause-ok : goal.returns-clause-ok
returns-clause-ok g c =
    nothing-left c.args.store.now c.args.nodes.now c.loop-class.store c.loop-class.nodes c.loop-class.turns c.loop-class.invariant (sym c.in_default.is ∙ c.front.ensures.front)
