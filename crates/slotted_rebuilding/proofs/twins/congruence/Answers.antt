use Rattle.std.proofs.Common.{sym, subst, inl, inr, rules}
use Rattle.std.specs.Prelude.{All}
use Rattle.std.proofs.lemmas.Result.{IfOk-weaker}
use Rattle.slotted_model.specs.ProofList.{congruent}
use Rattle.slotted_proofs.specs.Steps.{AreEntries, HasInjectiveSides, IsLarge}
use Rattle.slotted_classes.specs.Kept.{EntersBy}
use Rattle.slotted_rebuilding.specs.Congruence.{HasLargeBridge, IsOfAlike, ProvesEach, ProvesTwins}
use Rattle.slotted_rebuilding.proofs.Bridges.{parts-entries, step-proves}
use Rattle.slotted_rebuilding.proofs.JoinedIds.{no_bad_step}
use Rattle.slotted_rebuilding.proofs.twins.congruence.Goals as goal

pub bridges-requires-clause-alike : goal.bridges-requires-clause-alike
bridges-requires-clause-alike g c = subst (All (IsOfAlike c.args.store.now)) (sym c.deref.ensures.value) c.in_ok-children.ensures.ok.alike

pub prove_congruent-requires-clause-left : goal.prove_congruent-requires-clause-left
prove_congruent-requires-clause-left g c = c.requires.twins.left.injective

pub prove_congruent-requires-clause-right : goal.prove_congruent-requires-clause-right
prove_congruent-requires-clause-right g c = c.requires.twins.twin.full.injective

pub prove_congruent-requires-clause-children : goal.prove_congruent-requires-clause-children
prove_congruent-requires-clause-children g c = subst (All HasInjectiveSides) (sym c.deref-2.ensures.value) c.in_ok-children.ensures.ok.injective

pub returns-in_err-children-clause-full : goal.returns-in_err-children-clause-full
returns-in_err-children-clause-full g c e = inl (inr (c.in_err-children.ensures.full (search rules)))

pub returns-in_err-parts-clause-full : goal.returns-in_err-parts-clause-full
returns-in_err-parts-clause-full g c x =
    let k = c.args.store.now in
    inr (record {
      children = c.in_ok-children.children.items;
      are = c.in_ok-children.ensures.ok;
      large = subst (HasLargeBridge k) c.deref.ensures.value (c.in_err-parts.ensures.full (search rules));
    })

pub returns-clause-ok : goal.returns-clause-ok
returns-clause-ok g c =
    let k = c.args.store.now in
    let m = c.bridges.new.store in
    let l = c.prove_congruent.new.self in
    let e = c.args.equation.now in
    let cs = c.in_ok-children.children.items in
    let parts = c.in_ok-parts.parts.items in
    let bridged : ProvesEach k m cs parts = subst (λ es. ProvesEach k m es parts) c.deref.ensures.value c.in_ok-parts.ensures.ok in
    IfOk-weaker c.prove_congruent.result (EntersBy m l e (congruent parts)) (ProvesTwins k l e)
    (λ p enters. step-proves k e c.requires.twins cs c.in_ok-children.ensures.ok m parts bridged l p enters) c.prove_congruent.ensures.ok

pub returns-clause-full : goal.returns-clause-full
returns-clause-full g c x = elim (c.prove_congruent.ensures.full x) [
  | inl many ↦ inl (inl many)
  | inr large ↦ inl (inr (c.in_ok-children.ensures.ok.fits (subst IsLarge c.deref-2.ensures.value large)))
]

pub returns-clause-err : goal.returns-clause-err
returns-clause-err g c =
    let k = c.args.store.now in
    let m = c.bridges.new.store in
    let e = c.args.equation.now in
    let cs = c.in_ok-children.children.items in
    let parts = c.in_ok-parts.parts.items in
    let bridged : ProvesEach k m cs parts = subst (λ es. ProvesEach k m es parts) c.deref.ensures.value c.in_ok-parts.ensures.ok in
    no_bad_step c.prove_congruent.result c.prove_congruent.ensures.only
    (λ bad. c.prove_congruent.ensures.refused bad (subst (AreEntries m.proofs parts) (sym c.deref-2.ensures.value) (parts-entries k e c.requires.twins cs c.in_ok-children.ensures.ok m parts bridged)))
