use Rattle.std.proofs.Common.{IsTrue, sym, ◌∙◌, ap, arith}
use Rattle.std.proofs.lemmas.Grind.{common_steps}
use Rattle.slotted_check.specs.Rows.{moved_row}
use Rattle.slotted_check.proofs.Agreeing.{joins-by}
use Rattle.slotted_check.proofs.steps.is_transitive.Goals as goal

pub returns : goal.returns
returns c =
    let b : IsTrue c.in_ok-becomes.field-0 = grind (arith, common_steps, c.if-not-branch.false) in
    let d : IsTrue c.in_ok-becomes-2.field-0 = grind (arith, common_steps, c.if-not-branch-2.false) in
    λ t. joins-by _ _ _ _ c.len.ensures.injective c.len-2.ensures.injective c.in_ok-yes.ensures.left c.in_ok-yes.ensures.right
    (λ f a. ap (moved_row f) (sym c.deref.ensures.value) ∙ (c.in_ok-becomes.ensures.yes b f a ∙ c.deref-2.ensures.value))
    (λ f a. ap (moved_row f) (sym c.deref-3.ensures.value) ∙ (c.in_ok-becomes-2.ensures.yes d f a ∙ c.deref-4.ensures.value))
    (λ f g p q. ap (moved_row f) (sym c.deref-5.ensures.value) ∙ (c.in_ok-yes.ensures.yes t f g p q ∙ ap (moved_row g) c.deref-6.ensures.value))
