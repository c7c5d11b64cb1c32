-- The first half, and from there along the find of the right side.
use Rattle.std.proofs.Common.{◌<◌, length, rules, subst, sym}
use Rattle.std.proofs.lemmas.Result.{IfOk-weaker}
use Rattle.slotted_proofs.specs.Entries.{composite_entry}
use Rattle.slotted_classes.specs.Kept.{EntersIn}
use Rattle.slotted_rebuilding.specs.Proving.{ProvesFound}
use Rattle.slotted_rebuilding.proofs.EnteredProofs.{entry-right}
use Rattle.slotted_rebuilding.proofs.ProofsOfFinds.{found-itself, right-large, still-right, still-stands, whole-first, whole-large, whole-meets, whole-proves}
use Rattle.slotted_rebuilding.proofs.WrittenEntries.{right-in_range, right-many}
use Rattle.slotted_rebuilding.proofs.unions.proving.found_proof.Goals as goal

pub equ-requires : goal.equ-requires
equ-requires g c =
    let k = c.args.store.now in
    subst (λ ps. c.args.p < length ps) (sym c.proofs.ensures)
    (still-stands k c.requires.good c.args.p c.requires.within c.half_proof.new.store c.in_ok-half.half c.in_ok-half.ensures.ok)

pub is_whole-requires-clause-within : goal.is_whole-requires-clause-within
is_whole-requires-clause-within g c =
    let o = c.half_proof.new.store in
    let ok = c.in_ok-half.ensures.ok in
    right-in_range o ok.only.stored c.args.p (still-stands c.args.store.now c.requires.good c.args.p c.requires.within o c.in_ok-half.half ok)
    c.proofs.result.now c.proofs.ensures c.equ.result.now c.equ.ensures

pub is_whole-requires-clause-full : goal.is_whole-requires-clause-full
is_whole-requires-clause-full g c =
    let o = c.half_proof.new.store in
    let ok = c.in_ok-half.ensures.ok in
    right-many o ok.only.stored c.args.p (still-stands c.args.store.now c.requires.good c.args.p c.requires.within o c.in_ok-half.half ok)
    c.proofs.result.now c.proofs.ensures c.equ.result.now c.equ.ensures

pub returns-then-is_whole-clause-ok : goal.returns-then-is_whole-clause-ok
returns-then-is_whole-clause-ok g c =
    let k = c.args.store.now in
    let o = c.half_proof.new.store in
    let s = c.in_ok-half.half in
    let ok = c.in_ok-half.ensures.ok in
    let j = c.equ.result.now.r.id.0 in
    let right = still-right k c.requires.good c.args.p c.requires.within o s ok j (entry-right o c.proofs.result.now c.args.p c.equ.result.now c.proofs.ensures c.equ.ensures) in
    found-itself k c.requires.good c.args.p c.requires.within o s ok j right (c.is_whole.ensures c.if-is_whole.true)

pub find_proof-requires-clause-good : goal.find_proof-requires-clause-good
find_proof-requires-clause-good g c = c.in_ok-half.ensures.ok.only.stored

pub find_proof-requires-clause-within : goal.find_proof-requires-clause-within
find_proof-requires-clause-within g c =
    let o = c.half_proof.new.store in
    let ok = c.in_ok-half.ensures.ok in
    right-in_range o ok.only.stored c.args.p (still-stands c.args.store.now c.requires.good c.args.p c.requires.within o c.in_ok-half.half ok)
    c.proofs.result.now c.proofs.ensures c.equ.result.now c.equ.ensures

pub returns-in_err-onward-clause-full : goal.returns-in_err-onward-clause-full
returns-in_err-onward-clause-full g c h =
    let k = c.args.store.now in
    let o = c.half_proof.new.store in
    let s = c.in_ok-half.half in
    let ok = c.in_ok-half.ensures.ok in
    let j = c.equ.result.now.r.id.0 in
    let right = still-right k c.requires.good c.args.p c.requires.within o s ok j (entry-right o c.proofs.result.now c.args.p c.equ.result.now c.proofs.ensures c.equ.ensures) in
    right-large k c.requires.good c.args.p c.requires.within o ok.only j right (c.in_err-onward.ensures.full (search rules))

pub chain-requires-clause-first : goal.chain-requires-clause-first
chain-requires-clause-first g c =
    let k = c.args.store.now in
    let o = c.half_proof.new.store in
    let s = c.in_ok-half.half in
    let ok = c.in_ok-half.ensures.ok in
    let j = c.equ.result.now.r.id.0 in
    let right = still-right k c.requires.good c.args.p c.requires.within o s ok j (entry-right o c.proofs.result.now c.args.p c.equ.result.now c.proofs.ensures c.equ.ensures) in
    whole-first k c.requires.good c.args.p c.requires.within o s ok c.find_proof.new.store j c.in_ok-onward.onward right c.in_ok-onward.ensures.ok

pub chain-requires-clause-second : goal.chain-requires-clause-second
chain-requires-clause-second g c = c.in_ok-onward.ensures.ok.in_range

pub chain-requires-clause-meets : goal.chain-requires-clause-meets
chain-requires-clause-meets g c =
    let k = c.args.store.now in
    let o = c.half_proof.new.store in
    let s = c.in_ok-half.half in
    let ok = c.in_ok-half.ensures.ok in
    let j = c.equ.result.now.r.id.0 in
    let right = still-right k c.requires.good c.args.p c.requires.within o s ok j (entry-right o c.proofs.result.now c.args.p c.equ.result.now c.proofs.ensures c.equ.ensures) in
    whole-meets k c.requires.good c.args.p c.requires.within o s ok c.find_proof.new.store j c.in_ok-onward.onward right c.in_ok-onward.ensures.ok

pub returns-clause-full : goal.returns-clause-full
returns-clause-full g c h =
    let k = c.args.store.now in
    let o = c.half_proof.new.store in
    let s = c.in_ok-half.half in
    let ok = c.in_ok-half.ensures.ok in
    let j = c.equ.result.now.r.id.0 in
    let right = still-right k c.requires.good c.args.p c.requires.within o s ok j (entry-right o c.proofs.result.now c.args.p c.equ.result.now c.proofs.ensures c.equ.ensures) in
    whole-large k c.requires.good c.args.p c.requires.within o s ok c.find_proof.new.store j c.in_ok-onward.onward right c.in_ok-onward.ensures.ok
    (c.chain.ensures.full h)

pub returns-clause-ok : goal.returns-clause-ok
returns-clause-ok g c =
    let k = c.args.store.now in
    let o = c.half_proof.new.store in
    let s = c.in_ok-half.half in
    let ok = c.in_ok-half.ensures.ok in
    let j = c.equ.result.now.r.id.0 in
    let right = still-right k c.requires.good c.args.p c.requires.within o s ok j (entry-right o c.proofs.result.now c.args.p c.equ.result.now c.proofs.ensures c.equ.ensures) in
    let l = c.find_proof.new.store in
    let w = c.chain.new.self in
    IfOk-weaker c.chain.result (EntersIn l w (composite_entry l.proofs s c.in_ok-onward.onward)) (ProvesFound k w c.args.p)
    (whole-proves k c.requires.good c.args.p c.requires.within o s ok l j c.in_ok-onward.onward right c.in_ok-onward.ensures.ok w)
    c.chain.ensures.ok
