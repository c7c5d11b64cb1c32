use Rattle.std.proofs.Common.{rules}
use Rattle.slotted_model.specs.ProofList.{find_equation}
use Rattle.slotted_classes.specs.Kept.{nodes_of, entries_of}
use Rattle.slotted_rebuilding.proofs.EnteredProofs.{then-turned}
use Rattle.slotted_rebuilding.proofs.ProofsOfFinds.{back-large}
use Rattle.slotted_rebuilding.proofs.unions.proving.back_proof.Goals as goal

pub returns-clause-ok : goal.returns-clause-ok
returns-clause-ok g c =
    then-turned c.args.store.now c.find_proof.new.store c.turn.new.self
    (find_equation (nodes_of c.args.store.now) (entries_of c.args.store.now) c.args.id) c.in_ok-proof.proof
    c.in_ok-answer.answer c.in_ok-proof.ensures.ok c.in_ok-answer.ensures.ok

pub returns-in_err-answer-clause-full : goal.returns-in_err-answer-clause-full
returns-in_err-answer-clause-full g c e =
    back-large c.args.store.now c.find_proof.new.store c.requires.good c.args.id c.in_ok-proof.proof c.requires.within
    c.in_ok-proof.ensures.ok (c.in_err-answer.ensures.full (search rules))
