use Rattle.std.proofs.Common.{IsTrue, sym, ◌∙◌, ap, arith}
use Rattle.std.proofs.lemmas.Grind.{common_steps}
use Rattle.slotted_check.specs.Rows.{moved_row}
use Rattle.slotted_check.proofs.Agreeing.{says-by}
use Rattle.slotted_check.proofs.steps.says.Goals as goal

pub returns : goal.returns
returns c =
    let b : IsTrue c.in_ok-becomes.field-0 = grind (arith, common_steps, c.if-not-branch.false) in
    λ t. says-by _ _ c.len.ensures.injective c.in_ok-yes.ensures.extends
    (λ f a. ap (moved_row f) (sym c.deref.ensures.value) ∙ c.in_ok-becomes.ensures.yes b f a)
    (λ f a. ap (moved_row f) (sym c.deref-2.ensures.value) ∙ c.in_ok-yes.ensures.yes t f a)
