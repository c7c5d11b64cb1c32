use Rattle.std.proofs.Common.{◌≡◌, IfOk, ap, subst}
use Rattle.slotted_slots.specs.Maps.{doubled}
use Rattle.slotted_proofs.proofs.equation.Equation.own_names.Goals as goal

pub returns-clause-ok : goal.returns-clause-ok
returns-clause-ok c = subst (λ x. IfOk c.identity.result (λ m. m ≡ x)) (ap doubled c.in_ok-names.ensures.ok) c.identity.ensures.ok
