use Rattle.std.proofs.Common.{◌∙◌, ap, rules}
use Rattle.slotted_slots.specs.Maps.{doubled, keys}
use Rattle.slotted_rebuilding.proofs.EnteredProofs.{entry-left, many-large}
use Rattle.slotted_rebuilding.proofs.WrittenEntries.{left-in_range}
use Rattle.slotted_rebuilding.proofs.KeptSlots.{back-meets, back-large, class-lives, class-stays, dropped-left}
use Rattle.slotted_rebuilding.proofs.unions.dropping.drop_slots.Goals as goal

pub chain-requires-clause-first : goal.chain-requires-clause-first
chain-requires-clause-first g c =
    let r = c.requires in
    (back-meets c.args.store.now r.good c.args.q r.within r.live c.turn.new.self c.in_ok-back.back c.in_ok-back.ensures.ok).0

pub chain-requires-clause-second : goal.chain-requires-clause-second
chain-requires-clause-second g c =
    let r = c.requires in
    (back-meets c.args.store.now r.good c.args.q r.within r.live c.turn.new.self c.in_ok-back.back c.in_ok-back.ensures.ok).1

pub chain-requires-clause-meets : goal.chain-requires-clause-meets
chain-requires-clause-meets g c =
    let r = c.requires in
    (back-meets c.args.store.now r.good c.args.q r.within r.live c.turn.new.self c.in_ok-back.back c.in_ok-back.ensures.ok).2

pub set_slots-requires-clause-within : goal.set_slots-requires-clause-within
set_slots-requires-clause-within g c =
    let r = c.requires in
    class-stays c.args.store.now r.good c.args.q r.within r.live c.turn.new.self c.in_ok-back.back c.in_ok-back.ensures.ok
    c.chain.new.self c.in_ok-proof.proof c.in_ok-proof.ensures.ok c.equ.result.now.l.id.0
    (left-in_range c.args.store.now r.good c.args.q r.within c.proofs.result.now c.proofs.ensures c.equ.result.now c.equ.ensures)

pub set_slots-requires-clause-live : goal.set_slots-requires-clause-live
set_slots-requires-clause-live g c =
    let r = c.requires in
    class-lives c.args.store.now r.good c.args.q r.within r.live c.turn.new.self c.in_ok-back.back c.in_ok-back.ensures.ok
    c.chain.new.self c.in_ok-proof.proof c.in_ok-proof.ensures.ok c.equ.result.now.l.id.0
    (entry-left c.args.store.now c.proofs.result.now c.args.q c.equ.result.now c.proofs.ensures c.equ.ensures)

pub returns-in_err-back-clause-full : goal.returns-in_err-back-clause-full
returns-in_err-back-clause-full g c h =
    let r = c.requires in
    many-large c.args.store.now r.good c.args.q c.args.q r.within r.within (c.in_err-back.ensures.full (search rules))

pub returns-in_err-proof-clause-full : goal.returns-in_err-proof-clause-full
returns-in_err-proof-clause-full g c h =
    let r = c.requires in
    back-large c.args.store.now r.good c.args.q r.within r.live c.turn.new.self c.in_ok-back.back c.in_ok-back.ensures.ok
    (c.in_err-proof.ensures.full (search rules))

pub returns-clause-ok : goal.returns-clause-ok
returns-clause-ok g c =
    let r = c.requires in
    dropped-left c.args.store.now r.good c.args.q r.within r.live c.turn.new.self c.in_ok-back.back c.in_ok-back.ensures.ok
    c.chain.new.self c.in_ok-proof.proof c.in_ok-proof.ensures.ok r.lacks
    c.equ.result.now.l.id.0 (entry-left c.args.store.now c.proofs.result.now c.args.q c.equ.result.now c.proofs.ensures c.equ.ensures)
    c.in_ok-slots.slots (c.in_ok-slots.ensures.ok ∙ ap doubled (c.in_ok-keys.ensures.ok ∙ ap keys r.pairs))
    c.set_slots.new.self c.set_slots.ensures
