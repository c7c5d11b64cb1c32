-- Back along the find of the left side, and then the entry.
use Rattle.std.proofs.Common.{rules, subst}
use Rattle.slotted_rebuilding.specs.Proving.{FindsWhole}
use Rattle.slotted_rebuilding.proofs.EnteredProofs.{entry-left}
use Rattle.slotted_rebuilding.proofs.ProofsOfFinds.{half-itself, half-large, half-meets, half-proves, half-second, left-large}
use Rattle.slotted_rebuilding.proofs.WrittenEntries.{left-in_range, left-many}
use Rattle.slotted_rebuilding.proofs.unions.proving.half_proof.Goals as goal

pub is_whole-requires-clause-within : goal.is_whole-requires-clause-within
is_whole-requires-clause-within g c = left-in_range c.args.store.now c.requires.good c.args.p c.requires.within c.proofs.result.now c.proofs.ensures c.equ.result.now c.equ.ensures

pub is_whole-requires-clause-full : goal.is_whole-requires-clause-full
is_whole-requires-clause-full g c = left-many c.args.store.now c.requires.good c.args.p c.requires.within c.proofs.result.now c.proofs.ensures c.equ.result.now c.equ.ensures

pub returns-then-is_whole-clause-ok : goal.returns-then-is_whole-clause-ok
returns-then-is_whole-clause-ok g c =
    let k = c.args.store.now in
    let left = entry-left k c.proofs.result.now c.args.p c.equ.result.now c.proofs.ensures c.equ.ensures in
    half-itself k c.requires.good c.args.p c.requires.within (subst (FindsWhole k) left (c.is_whole.ensures c.if-is_whole.true))

pub back_proof-requires-clause-within : goal.back_proof-requires-clause-within
back_proof-requires-clause-within g c = left-in_range c.args.store.now c.requires.good c.args.p c.requires.within c.proofs.result.now c.proofs.ensures c.equ.result.now c.equ.ensures

pub chain-requires-clause-second : goal.chain-requires-clause-second
chain-requires-clause-second g c =
    half-second c.args.store.now c.requires.good c.args.p c.requires.within c.back_proof.new.store c.equ.result.now.l.id.0 c.in_ok-back.back
    (entry-left c.args.store.now c.proofs.result.now c.args.p c.equ.result.now c.proofs.ensures c.equ.ensures) c.in_ok-back.ensures.ok

pub chain-requires-clause-meets : goal.chain-requires-clause-meets
chain-requires-clause-meets g c =
    half-meets c.args.store.now c.requires.good c.args.p c.requires.within c.back_proof.new.store c.equ.result.now.l.id.0 c.in_ok-back.back
    (entry-left c.args.store.now c.proofs.result.now c.args.p c.equ.result.now c.proofs.ensures c.equ.ensures) c.in_ok-back.ensures.ok

pub returns-in_err-back-clause-full : goal.returns-in_err-back-clause-full
returns-in_err-back-clause-full g c h =
    left-large c.args.store.now c.requires.good c.args.p c.requires.within c.equ.result.now.l.id.0
    (entry-left c.args.store.now c.proofs.result.now c.args.p c.equ.result.now c.proofs.ensures c.equ.ensures)
    (c.in_err-back.ensures.full (search rules))

pub returns-in_err-answer-clause-full : goal.returns-in_err-answer-clause-full
returns-in_err-answer-clause-full g c h =
    half-large c.args.store.now c.requires.good c.args.p c.requires.within c.back_proof.new.store c.equ.result.now.l.id.0 c.in_ok-back.back
    (entry-left c.args.store.now c.proofs.result.now c.args.p c.equ.result.now c.proofs.ensures c.equ.ensures) c.in_ok-back.ensures.ok
    (c.in_err-answer.ensures.full (search rules))

pub returns-clause-ok : goal.returns-clause-ok
returns-clause-ok g c =
    half-proves c.args.store.now c.requires.good c.args.p c.requires.within c.back_proof.new.store c.equ.result.now.l.id.0 c.in_ok-back.back
    (entry-left c.args.store.now c.proofs.result.now c.args.p c.equ.result.now c.proofs.ensures c.equ.ensures) c.in_ok-back.ensures.ok
    c.chain.new.self c.in_ok-answer.answer c.in_ok-answer.ensures.ok
