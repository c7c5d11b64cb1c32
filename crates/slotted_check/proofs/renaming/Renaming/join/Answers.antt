use Rattle.std.proofs.Common.{◌≡◌, sym, ◌∙◌, subst, true≢false, arith}
use Rattle.std.proofs.lemmas.Grind.{common_steps}
use Rattle.std.specs.Prelude.{Some, None}
use Rattle.slotted_lists.proofs.Maps.{value_of-added}
use Rattle.slotted_theory.specs.FiniteMaps.{value_of, HasValue, IsInjectiveMap}
use Rattle.slotted_check.proofs.Pairs.{value_of-kept, IsInjectiveMap-added}
use Rattle.slotted_check.proofs.renaming.Renaming.join.Goals as goal

pub invariant_of-self-2 : goal.invariant_of-self-2
invariant_of-self-2 c =
    subst IsInjectiveMap (sym c.in_ok-push.ensures.items)
    (IsInjectiveMap-added _ (c.args.name, c.args.value) (λ h. true≢false (sym (c.is_value_among.ensures.1 (subst (λ m. HasValue m c.args.value) (sym c.deref.ensures.value) h)) ∙ c.if-is_value_among.false)) c.self.invariant)

pub returns-clause-injective : goal.returns-clause-injective
returns-clause-injective c =
    subst IsInjectiveMap (sym c.in_ok-push.ensures.items)
    (IsInjectiveMap-added _ (c.args.name, c.args.value) (λ h. true≢false (sym (c.is_value_among.ensures.1 (subst (λ m. HasValue m c.args.value) (sym c.deref.ensures.value) h)) ∙ c.if-is_value_among.false)) c.self.invariant)

pub returns-clause-joined : goal.returns-clause-joined
returns-clause-joined c =
    let e : c.args.self.now ≡ c.self.inside.pairs.items = grind (arith, common_steps, c.self.view_is) in
    let n : value_of c.self.inside.pairs.items c.args.name ≡ None = subst (λ m. value_of m c.args.name ≡ None) e (sym c.value.ensures ∙ c.in-None.is) in
    λ t. subst (λ m. value_of m c.args.name ≡ Some c.args.value) (sym c.in_ok-push.ensures.items) (value_of-added _ c.args.name c.args.value n)

pub returns-clause-extends : goal.returns-clause-extends
returns-clause-extends c =
    let e : c.args.self.now ≡ c.self.inside.pairs.items = grind (arith, common_steps, c.self.view_is) in
    λ x v h. subst (λ m. value_of m x ≡ Some v) (sym c.in_ok-push.ensures.items) (value_of-kept _ (c.args.name, c.args.value) x v (subst (λ m. value_of m x ≡ Some v) e h))
