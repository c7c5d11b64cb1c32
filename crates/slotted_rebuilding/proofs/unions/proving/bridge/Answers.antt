use Rattle.std.proofs.Common.{◌<◌, ℕ, length, ap, refl, subst, sym, rules, inl, inr, arith}
use Rattle.std.proofs.lemmas.Result.{IfOk-weaker}
use Rattle.slotted_model.specs.ProofList.{find_equation, transitive, turned_equation}
use Rattle.slotted_proofs.specs.declared.equation.Equation.{Equation as Sides}
use Rattle.slotted_proofs.specs.Equations.{to_applied}
use Rattle.slotted_slots.specs.declared.types.AppliedId.{AppliedId}
use Rattle.slotted_classes.specs.Kept.{Kept, EntersBy, nodes_of, entries_of}
use Rattle.slotted_classes.proofs.KeptLists.{length-nodes_of}
use Rattle.slotted_theory.specs.FiniteMaps.{IsInjectiveMap}
use Rattle.slotted_rebuilding.specs.Proving.{Proves, ProvesEqual}
use Rattle.slotted_rebuilding.proofs.EnteredProofs.{proves-still, only-large}
use Rattle.slotted_rebuilding.proofs.LargeFinds.{large-among}
use Rattle.slotted_rebuilding.proofs.ProofsOfFinds.{still-finds}
use Rattle.slotted_rebuilding.proofs.JoinedIds.{no_bad_step, joined-step, joined-proves, joined-large}
use Rattle.slotted_rebuilding.proofs.unions.proving.bridge.Goals as goal

pub back_proof-requires-clause-within : goal.back_proof-requires-clause-within
back_proof-requires-clause-within g c = omega (arith, c.requires.right.in_range, length-nodes_of c.args.store.now)

pub find_proof-requires-clause-good : goal.find_proof-requires-clause-good
find_proof-requires-clause-good g c = c.in_ok-back.ensures.ok.only.stored

pub find_proof-requires-clause-within : goal.find_proof-requires-clause-within
find_proof-requires-clause-within g c =
    subst (λ (k : Kept). c.args.a.now.id.0 < length k.classes) (sym c.in_ok-back.ensures.ok.only.kept)
    (omega (arith, c.requires.left.in_range, length-nodes_of c.args.store.now))

pub prove_transitive-requires-clause-left : goal.prove_transitive-requires-clause-left
prove_transitive-requires-clause-left g c =
    subst (λ (x : AppliedId). IsInjectiveMap x.m) (sym c.in_ok-equation.ensures.left) c.requires.left.injective

pub prove_transitive-requires-clause-right : goal.prove_transitive-requires-clause-right
prove_transitive-requires-clause-right g c =
    subst (λ (x : AppliedId). IsInjectiveMap x.m) (sym c.in_ok-equation.ensures.right) c.requires.right.injective

pub returns-clause-ok : goal.returns-clause-ok
returns-clause-ok g c =
    let k : Kept = c.args.store.now in
    let l : Kept = c.back_proof.new.store in
    let m : Kept = c.find_proof.new.store in
    let p : ℕ = c.in_ok-onward.onward in
    let q : ℕ = c.in_ok-back.back in
    let first : Proves k m (find_equation (nodes_of k) (entries_of k) c.args.a.now.id.0) p = still-finds k l m c.args.a.now.id.0 p c.in_ok-back.ensures.ok.only c.in_ok-onward.ensures.ok in
    let second : Proves k m (turned_equation (nodes_of k) (find_equation (nodes_of k) (entries_of k) c.args.b.now.id.0)) q = proves-still k l m (turned_equation (nodes_of k) (find_equation (nodes_of k) (entries_of k) c.args.b.now.id.0)) q c.in_ok-back.ensures.ok c.in_ok-onward.ensures.ok.only in
    let e : Sides = c.in_ok-equation.equation in
    IfOk-weaker c.prove_transitive.result (EntersBy m c.prove_transitive.new.self e (transitive p q)) (ProvesEqual k c.prove_transitive.new.self (to_applied c.args.a.now) (to_applied c.args.b.now))
    (λ r enters. joined-proves k c.requires.good (to_applied c.args.a.now) (to_applied c.args.b.now) c.requires.left c.requires.right c.requires.alike m p q first second e (ap to_applied c.in_ok-equation.ensures.left) (ap to_applied c.in_ok-equation.ensures.right) c.prove_transitive.new.self r enters)
    c.prove_transitive.ensures.ok

pub returns-clause-full : goal.returns-clause-full
returns-clause-full g c h =
    let k : Kept = c.args.store.now in
    let l : Kept = c.back_proof.new.store in
    let m : Kept = c.find_proof.new.store in
    let p : ℕ = c.in_ok-onward.onward in
    let q : ℕ = c.in_ok-back.back in
    let first : Proves k m (find_equation (nodes_of k) (entries_of k) c.args.a.now.id.0) p = still-finds k l m c.args.a.now.id.0 p c.in_ok-back.ensures.ok.only c.in_ok-onward.ensures.ok in
    let second : Proves k m (turned_equation (nodes_of k) (find_equation (nodes_of k) (entries_of k) c.args.b.now.id.0)) q = proves-still k l m (turned_equation (nodes_of k) (find_equation (nodes_of k) (entries_of k) c.args.b.now.id.0)) q c.in_ok-back.ensures.ok c.in_ok-onward.ensures.ok.only in
    let e : Sides = c.in_ok-equation.equation in
    joined-large k c.requires.good (to_applied c.args.a.now) (to_applied c.args.b.now) c.requires.left c.requires.right c.requires.alike m p q first second e (ap to_applied c.in_ok-equation.ensures.left) (ap to_applied c.in_ok-equation.ensures.right) (c.prove_transitive.ensures.full h)

pub returns-clause-err : goal.returns-clause-err
returns-clause-err g c =
    let k : Kept = c.args.store.now in
    let l : Kept = c.back_proof.new.store in
    let m : Kept = c.find_proof.new.store in
    let p : ℕ = c.in_ok-onward.onward in
    let q : ℕ = c.in_ok-back.back in
    let first : Proves k m (find_equation (nodes_of k) (entries_of k) c.args.a.now.id.0) p = still-finds k l m c.args.a.now.id.0 p c.in_ok-back.ensures.ok.only c.in_ok-onward.ensures.ok in
    let second : Proves k m (turned_equation (nodes_of k) (find_equation (nodes_of k) (entries_of k) c.args.b.now.id.0)) q = proves-still k l m (turned_equation (nodes_of k) (find_equation (nodes_of k) (entries_of k) c.args.b.now.id.0)) q c.in_ok-back.ensures.ok c.in_ok-onward.ensures.ok.only in
    let e : Sides = c.in_ok-equation.equation in
    no_bad_step c.prove_transitive.result c.prove_transitive.ensures.only
    (λ bad. c.prove_transitive.ensures.refused bad (joined-step k c.requires.good (to_applied c.args.a.now) (to_applied c.args.b.now) c.requires.left c.requires.right c.requires.alike m p q first second e (ap to_applied c.in_ok-equation.ensures.left) (ap to_applied c.in_ok-equation.ensures.right)))

pub returns-in_err-back-clause-full : goal.returns-in_err-back-clause-full
returns-in_err-back-clause-full g c h =
    large-among c.args.store.now c.args.b.now.id.0 c.args.b.now.id.0 c.args.a.now.id.0 c.args.b.now.id.0 (inr refl) (inr refl) (c.in_err-back.ensures.full (search rules))

pub returns-in_err-onward-clause-full : goal.returns-in_err-onward-clause-full
returns-in_err-onward-clause-full g c h =
    only-large c.args.store.now c.back_proof.new.store c.in_ok-back.ensures.ok.only c.args.a.now.id.0 c.args.b.now.id.0
    (large-among c.back_proof.new.store c.args.a.now.id.0 c.args.a.now.id.0 c.args.a.now.id.0 c.args.b.now.id.0 (inl refl) (inl refl) (c.in_err-onward.ensures.full (search rules)))
