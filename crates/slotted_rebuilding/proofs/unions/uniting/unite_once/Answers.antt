use Rattle.std.proofs.Common.{◌∙◌, sym, rules}
use Rattle.std.proofs.lemmas.Bool.{false≢true}
use Rattle.std.proofs.lemmas.Result.{IfOk-weaker}
use Rattle.slotted_model.specs.Changes.{found_entry}
use Rattle.slotted_classes.specs.StateOf.{state_of}
use Rattle.slotted_rebuilding.specs.Uniting.{ActsOn, StepsBy, equation_in}
use Rattle.slotted_rebuilding.specs.declared.unions.uniting.UnionStep.{UnionStep}
use Rattle.slotted_rebuilding.proofs.EnteredProofs.{nothing-proved}
use Rattle.slotted_rebuilding.proofs.UniteSteps.{alike-step, proof-live, proof-large, then-dropped, still-stored, still-proved}
use Rattle.slotted_rebuilding.proofs.UniteSteps.{acting-live, acting-all, acting-moves, acting-large, acting-step}
use Rattle.slotted_rebuilding.proofs.unions.uniting.unite_once.Goals as goal

pub returns-then-sides_find_alike-clause-ok : goal.returns-then-sides_find_alike-clause-ok
returns-then-sides_find_alike-clause-ok g c =
    let k = c.args.store.now in
    alike-step k c.requires.good c.args.p c.requires.within (found_entry (state_of k) c.args.p) (λ i. found_entry (state_of k) c.args.p) (c.sides_find_alike.ensures.0 c.if-sides_find_alike.true)

pub drop_either-requires-clause-good : goal.drop_either-requires-clause-good
drop_either-requires-clause-good g c = c.in_ok-q.ensures.ok.only.stored

pub drop_either-requires-clause-within : goal.drop_either-requires-clause-within
drop_either-requires-clause-within g c = c.in_ok-q.ensures.ok.in_range

pub drop_either-requires-clause-live : goal.drop_either-requires-clause-live
drop_either-requires-clause-live g c =
    proof-live c.args.store.now c.found_proof.new.store c.requires.good c.args.p c.in_ok-q.q c.requires.within c.in_ok-q.ensures.ok

pub returns-in_err-class-clause-full : goal.returns-in_err-class-clause-full
returns-in_err-class-clause-full g c h =
    let k = c.args.store.now in
    let m = c.found_proof.new.store in
    proof-large k m c.requires.good c.args.p c.in_ok-q.q c.requires.within c.in_ok-q.ensures.ok m (nothing-proved m c.in_ok-q.ensures.ok.only.stored) (c.in_err-class.ensures.full (search rules))

pub returns-in-Some-clause-ok : goal.returns-in-Some-clause-ok
returns-in-Some-clause-ok g c =
    then-dropped c.args.store.now c.found_proof.new.store c.requires.good c.args.p c.in_ok-q.q c.requires.within c.in_ok-q.ensures.ok
    c.drop_either.new.store c.in_ok-class.field-0 c.in-Some.class c.in-Some.is c.in_ok-class.ensures.ok

pub act_on-requires-clause-good : goal.act_on-requires-clause-good
act_on-requires-clause-good g c =
    still-stored c.args.store.now c.found_proof.new.store c.requires.good c.args.p c.in_ok-q.q c.requires.within c.in_ok-q.ensures.ok
    c.drop_either.new.store c.in_ok-class.field-0 c.in_default.is c.in_ok-class.ensures.ok

pub act_on-requires-clause-within : goal.act_on-requires-clause-within
act_on-requires-clause-within g c =
    still-proved c.args.store.now c.found_proof.new.store c.requires.good c.args.p c.in_ok-q.q c.requires.within c.in_ok-q.ensures.ok
    c.drop_either.new.store c.in_ok-class.field-0 c.in_default.is c.in_ok-class.ensures.ok

pub act_on-requires-clause-live : goal.act_on-requires-clause-live
act_on-requires-clause-live g c =
    acting-live c.args.store.now c.found_proof.new.store c.requires.good c.args.p c.in_ok-q.q c.requires.within c.in_ok-q.ensures.ok
    c.drop_either.new.store c.in_ok-class.field-0 c.in_default.is c.in_ok-class.ensures.ok

pub act_on-requires-clause-pairs_all : goal.act_on-requires-clause-pairs_all
act_on-requires-clause-pairs_all g c =
    acting-all c.args.store.now c.found_proof.new.store c.requires.good c.args.p c.in_ok-q.q c.requires.within c.in_ok-q.ensures.ok
    c.drop_either.new.store c.in_ok-class.field-0 c.in_default.is c.in_ok-class.ensures.ok

pub act_on-requires-clause-moves : goal.act_on-requires-clause-moves
act_on-requires-clause-moves g c =
    acting-moves c.args.store.now c.found_proof.new.store c.requires.good c.args.p c.in_ok-q.q c.requires.within c.in_ok-q.ensures.ok
    c.drop_either.new.store c.in_ok-class.field-0 c.in_default.is c.in_ok-class.ensures.ok
    (λ s. false≢true (sym c.if-sides_find_alike.false ∙ c.sides_find_alike.ensures.1 s))

pub returns-clause-ok : goal.returns-clause-ok
returns-clause-ok g c =
    let k = c.args.store.now in
    let m = c.found_proof.new.store in
    let l = c.drop_either.new.store in
    let n = c.act_on.new.store in
    let q = c.in_ok-q.q in
    IfOk-weaker c.act_on.result (ActsOn l n (equation_in l q) q) (StepsBy c.args.p k n)
    (λ (step : UnionStep). acting-step k m c.requires.good c.args.p q c.requires.within c.in_ok-q.ensures.ok l c.in_ok-class.field-0 c.in_default.is c.in_ok-class.ensures.ok n step
    (λ s. false≢true (sym c.if-sides_find_alike.false ∙ c.sides_find_alike.ensures.1 s)))
    c.act_on.ensures.ok

pub returns-clause-full : goal.returns-clause-full
returns-clause-full g c h =
    acting-large c.args.store.now c.found_proof.new.store c.requires.good c.args.p c.in_ok-q.q c.requires.within c.in_ok-q.ensures.ok
    c.drop_either.new.store c.in_ok-class.field-0 c.in_default.is c.in_ok-class.ensures.ok (c.act_on.ensures.full h)
