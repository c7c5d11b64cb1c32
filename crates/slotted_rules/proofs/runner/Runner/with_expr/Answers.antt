-- The refusal of the addition is handed on.
use Rattle.std.proofs.Common.{◌≡◌, ◌⊎◌}
use Rattle.slotted_slots.specs.declared.error.Error.TheVariants.{Failed}
use Rattle.slotted_slots.specs.Error.{IsShortage}
use Rattle.slotted_rules.proofs.Handing.{handed_if, handed_of}
use Rattle.slotted_rules.proofs.runner.Runner.with_expr.Goals as goal

pub returns-in_err-add_root-clause-failed : goal.returns-in_err-add_root-clause-failed
returns-in_err-add_root-clause-failed g c = handed_of c.add_root.result c.in_err-add_root.field-0.0 c.in_err-add_root.was c.from_residual.result c.from_residual.ensures.1 c.add_root.ensures.failed

pub returns-in_err-add_root-clause-only : goal.returns-in_err-add_root-clause-only
returns-in_err-add_root-clause-only g c =
    handed_if c.add_root.result c.in_err-add_root.field-0.0 c.in_err-add_root.was c.from_residual.result c.from_residual.ensures.1 (λ e. (e ≡ Failed) ⊎ IsShortage e) c.add_root.ensures.only
