use Rattle.std.proofs.Common.{◌≡◌, ◌≢◌, ◌<◌, length, sym, ◌∙◌, subst, arith, rules}
use Rattle.slotted_classes.specs.Kept.{Kept, find_at}
use Rattle.slotted_classes.proofs.Chasing.{moments_left, next_within, nearer}
use Rattle.slotted_rebuilding.specs.Proving.{ProvesFind}
use Rattle.slotted_classes.proofs.StoredFinds.{stored-finds}
use Rattle.slotted_rebuilding.proofs.ProofsOfFinds.{entry-proves, next-class_of, live-proves, next-first, next-meets, next-among, next-large}
use Rattle.slotted_rebuilding.proofs.ProofsOfFinds.{next-proves}
use Rattle.slotted_rebuilding.proofs.unions.proving.+find_proof.Goals as goal

pub returns-then-next-id-clause-ok : goal.returns-then-next-id-clause-ok
returns-then-next-id-clause-ok g t c =
    let k : Kept = c.args.store.now in
    let next : c.entry.result.now.id.0 ≡ (find_at k c.args.id).class =
    next-class_of c.args.store.now c.args.id c.entry.result.now c.entry.ensures in
    live-proves k c.requires.good c.args.id c.requires.within c.proof_of-proof.result c.proof_of-proof.ensures
    (omega (arith, next, c.if-next-id.true))

pub returns-then-leads_to_whole-clause-ok : goal.returns-then-leads_to_whole-clause-ok
returns-then-leads_to_whole-clause-ok g t c =
    entry-proves c.args.store.now c.requires.good c.args.id c.requires.within c.proof_of-proof.result c.proof_of-proof.ensures (c.leads_to_whole.ensures c.if-leads_to_whole.true)

pub find_proof-requires : goal.find_proof-requires
find_proof-requires g t c =
    let k : Kept = c.args.store.now in
    let next : c.entry.result.now.id.0 ≡ (find_at k c.args.id).class =
    next-class_of c.args.store.now c.args.id c.entry.result.now c.entry.ensures in
    let dead : (find_at k c.args.id).class ≢ c.args.id = λ e. omega (arith, e, next, c.if-next-id.false) in
    let small : moments_left k c.entry.result.now.id.0 < moments_left k c.args.id =
    subst (λ j. moments_left k j < moments_left k c.args.id) (sym next)
    (nearer k (stored-finds k c.requires.good) c.args.id c.requires.within dead) in
    let within : c.entry.result.now.id.0 < length k.classes = subst (λ j. j < length k.classes) (sym next)
    (next_within k (stored-finds k c.requires.good) c.args.id c.requires.within) in
    λ κs h. (omega (arith, small, c.decreases), (search rules, (c.requires.good, within)))

pub returns-in_err-rest-clause-full : goal.returns-in_err-rest-clause-full
returns-in_err-rest-clause-full g t c e =
    next-among c.args.store.now c.requires.good c.args.id c.requires.within c.proof_of-proof.result
    c.proof_of-proof.ensures c.entry.result.now.id.0
    (next-class_of c.args.store.now c.args.id c.entry.result.now c.entry.ensures) (c.in_err-rest.ensures.full (search rules))

pub chain-requires-clause-first : goal.chain-requires-clause-first
chain-requires-clause-first g t c =
    next-first c.args.store.now c.requires.good c.args.id c.requires.within c.proof_of-proof.result
    c.proof_of-proof.ensures c.find_proof.new.store c.in_ok-rest.rest c.entry.result.now.id.0
    (next-class_of c.args.store.now c.args.id c.entry.result.now c.entry.ensures) c.in_ok-rest.ensures.ok

pub chain-requires-clause-meets : goal.chain-requires-clause-meets
chain-requires-clause-meets g t c =
    next-meets c.args.store.now c.requires.good c.args.id c.requires.within c.proof_of-proof.result
    c.proof_of-proof.ensures c.find_proof.new.store c.in_ok-rest.rest c.entry.result.now.id.0
    (next-class_of c.args.store.now c.args.id c.entry.result.now c.entry.ensures) c.in_ok-rest.ensures.ok

pub returns-in_err-answer-clause-full : goal.returns-in_err-answer-clause-full
returns-in_err-answer-clause-full g t c e =
    next-large c.args.store.now c.requires.good c.args.id c.requires.within c.proof_of-proof.result
    c.proof_of-proof.ensures c.find_proof.new.store c.in_ok-rest.rest c.entry.result.now.id.0
    (next-class_of c.args.store.now c.args.id c.entry.result.now c.entry.ensures) c.in_ok-rest.ensures.ok
    (c.in_err-answer.ensures.full (search rules))

pub returns-clause-ok : goal.returns-clause-ok
returns-clause-ok g t c =
    subst (λ l. ProvesFind c.args.store.now l c.args.id c.in_ok-answer.answer) (sym (c.note_walk.ensures.same ∙ c.set_last_proof.ensures))
    (next-proves c.args.store.now c.requires.good c.args.id c.requires.within c.proof_of-proof.result
    c.proof_of-proof.ensures c.find_proof.new.store c.in_ok-rest.rest c.entry.result.now.id.0
    (next-class_of c.args.store.now c.args.id c.entry.result.now c.entry.ensures) c.in_ok-rest.ensures.ok
    c.chain.new.self c.in_ok-answer.answer c.in_ok-answer.ensures.ok)
