use Rattle.std.proofs.Common.{sym, ◌∙◌}
use Rattle.std.proofs.lemmas.Bool.{false≢true}
use Rattle.slotted_proofs.proofs.Bridges.{injective_differ, differ_injective}
use Rattle.slotted_proofs.proofs.steps.is_side_over.Goals as goal

pub returns-then-is_bijection : goal.returns-then-is_bijection
returns-then-is_bijection c = (
  λ y. (differ_injective c.args.side.now.m (sym c.is_bijection.ensures ∙ c.if-is_bijection.true), c.has_slots.ensures.0 y),
  λ h. c.has_slots.ensures.1 h.1,
)

pub returns-else-is_bijection : goal.returns-else-is_bijection
returns-else-is_bijection c = (
  λ y. absurd (false≢true (sym c.if-is_bijection.false ∙ y)),
  λ h. c.is_bijection.ensures ∙ injective_differ c.args.side.now.m h.0,
)
