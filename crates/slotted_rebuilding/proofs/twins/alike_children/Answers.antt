use Rattle.std.proofs.Common.{subst, inl, inr, rules}
use Rattle.std.specs.Prelude.{IfSome, IfNone, All}
use Rattle.slotted_proofs.specs.Equations.{to_applied}
use Rattle.slotted_proofs.specs.Steps.{HasInjectiveSides}
use Rattle.slotted_classes.specs.Kept.{nodes_of}
use Rattle.slotted_alike.specs.Frames.{AreAlikeForms, AreNeverAlike}
use Rattle.slotted_rebuilding.proofs.ChildrenOfTwins.{not_never, twin-children}
use Rattle.slotted_rebuilding.proofs.WideNodes.{wide_at}
use Rattle.slotted_rebuilding.proofs.twins.alike_children.Goals as goal

pub returns-in_err-children-clause-full : goal.returns-in_err-children-clause-full
returns-in_err-children-clause-full g c x =
    let k = c.args.store.now in
    let e = c.args.equation.now in
    elim (c.in_err-children.ensures.full (search rules)) [
      | inl large ↦ inl (wide_at (nodes_of k) (to_applied e.l) (g.L.LanguageChildren.form c.in_ok-left.left) c.in_ok-left.ensures.ok large)
      | inr large ↦ inr (wide_at (nodes_of k) (to_applied e.r) (g.L.LanguageChildren.form c.in_ok-right.right) c.in_ok-right.ensures.ok large)
    ]

pub returns-clause-ok : goal.returns-clause-ok
returns-clause-ok g c =
    let f = g.L.LanguageChildren.form c.in_ok-left.left in
    let h = g.L.LanguageChildren.form c.in_ok-right.right in
    twin-children c.args.store.now c.requires.good c.args.equation.now c.requires.twins f h c.in_ok-left.ensures.ok c.in_ok-right.ensures.ok c.in-Some.children.items
    (subst (λ o. IfSome o (λ v. AreAlikeForms f h v.items)) c.in-Some.is c.in_ok-children.ensures.alike)
    (subst (λ o. IfSome o (λ v. All HasInjectiveSides v.items)) c.in-Some.is c.in_ok-children.ensures.injective)

pub unreachable-requires : goal.unreachable-requires
unreachable-requires g c =
    let f = g.L.LanguageChildren.form c.in_ok-left.left in
    let h = g.L.LanguageChildren.form c.in_ok-right.right in
    not_never c.args.store.now c.requires.good c.args.equation.now c.requires.twins f h c.in_ok-left.ensures.ok c.in_ok-right.ensures.ok
    (subst (λ o. IfNone o (AreNeverAlike f h)) c.in-None.is c.in_ok-children.ensures.none)
