use Rattle.std.proofs.Common.{◌∙◌, sym}
use Rattle.std.proofs.lemmas.Bool.{false≢true}
use Rattle.slotted_classes.proofs.names.have_same_values.Goals as goal

pub returns-then-has_values_of : goal.returns-then-has_values_of
returns-then-has_values_of c = (
  λ y. λ x. (λ h. c.has_values_of.ensures.0 c.if-has_values_of.true x h, λ h. c.has_values_of-then-has_values_of.ensures.0 y x h),
  λ h. c.has_values_of-then-has_values_of.ensures.1 (λ x k. (h x).1 k),
)

pub returns-else-has_values_of : goal.returns-else-has_values_of
returns-else-has_values_of c = (
  λ y. absurd (false≢true (sym c.if-has_values_of.false ∙ y)),
  λ h. c.has_values_of.ensures.1 (λ x k. (h x).0 k),
)
