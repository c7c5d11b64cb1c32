use Rattle.std.proofs.Common.{subst, sym, inl, inr, rules}
use Rattle.std.specs.Prelude.{IfSome, All}
use Rattle.slotted_proofs.specs.Steps.{HasInjectiveSides}
use Rattle.slotted_alike.specs.Frames.{AreAlikeForms}
use Rattle.slotted_classes.specs.Kept.{nodes_of}
use Rattle.slotted_proofs.specs.Equations.{to_applied}
use Rattle.slotted_rebuilding.proofs.Naming.{congruent_again}
use Rattle.slotted_alike.proofs.WideNodes.{large_child}
use Rattle.slotted_rebuilding.proofs.WideNodes.{wide_at}
use Rattle.slotted_operations.proofs.checking.check_congruent.Goals as goal

pub returns-in-Some-clause-refused : goal.returns-in-Some-clause-refused
returns-in-Some-clause-refused g c =
    let k = c.args.store.now in
    let e = c.args.equation.now in
    let f = g.L.LanguageChildren.form c.in_ok-left.left in
    let h = g.L.LanguageChildren.form c.in_ok-right.right in
    let left = c.in_ok-left.ensures.ok in
    let right = c.in_ok-right.ensures.ok in
    let cs = c.deref.result.now in
    let alike : AreAlikeForms f h cs = subst (AreAlikeForms f h) (sym c.deref.ensures.value) (subst (λ o. IfSome o (λ v. AreAlikeForms f h v.items)) c.in-Some.is c.in_ok-children.ensures.alike) in
    let once : All HasInjectiveSides cs = subst (All HasInjectiveSides) (sym c.deref.ensures.value) (subst (λ o. IfSome o (λ v. All HasInjectiveSides v.items)) c.in-Some.is c.in_ok-children.ensures.injective) in
    λ bad s. c.prove_congruent.ensures.refused bad ((congruent_again k e f h left right cs c.args.parts.items alike once s.1))

pub returns-in_err-children-clause-full : goal.returns-in_err-children-clause-full
returns-in_err-children-clause-full g c x =
    let k = c.args.store.now in
    let e = c.args.equation.now in
    let f = g.L.LanguageChildren.form c.in_ok-left.left in
    let h = g.L.LanguageChildren.form c.in_ok-right.right in
    elim (c.in_err-children.ensures.full (search rules)) [
      | inl large ↦ inr (inl (wide_at (nodes_of k) (to_applied e.l) f c.in_ok-left.ensures.ok large))
      | inr large ↦ inr (inr (wide_at (nodes_of k) (to_applied e.r) h c.in_ok-right.ensures.ok large))
    ]

pub returns-in-Some-clause-full : goal.returns-in-Some-clause-full
returns-in-Some-clause-full g c x =
    let k = c.args.store.now in
    let e = c.args.equation.now in
    let f = g.L.LanguageChildren.form c.in_ok-left.left in
    let h = g.L.LanguageChildren.form c.in_ok-right.right in
    let cs = c.deref.result.now in
    let alike : AreAlikeForms f h cs = subst (AreAlikeForms f h) (sym c.deref.ensures.value) (subst (λ o. IfSome o (λ v. AreAlikeForms f h v.items)) c.in-Some.is c.in_ok-children.ensures.alike) in
    elim (c.prove_congruent.ensures.full x) [
      | inl many ↦ inl many
      | inr large ↦ elim (large_child f h cs alike large) [
        | inl wide ↦ inr (inl (wide_at (nodes_of k) (to_applied e.l) f c.in_ok-left.ensures.ok wide))
        | inr wide ↦ inr (inr (wide_at (nodes_of k) (to_applied e.r) h c.in_ok-right.ensures.ok wide))
      ]
    ]
