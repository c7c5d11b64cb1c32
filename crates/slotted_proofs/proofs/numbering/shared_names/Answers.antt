use Rattle.std.proofs.Common.{◌≡◌, ◌∙◌, IfOk, ap, subst}
use Rattle.slotted_slots.specs.Maps.{composed}
use Rattle.slotted_proofs.proofs.Bridges.{injective_differ, shared-model}
use Rattle.slotted_proofs.proofs.numbering.shared_names.Goals as goal

pub inverse-requires : goal.inverse-requires
inverse-requires c = injective_differ c.args.to.now c.requires

pub returns-clause-ok : goal.returns-clause-ok
returns-clause-ok c =
    subst (λ x. IfOk c.compose_partial.result (λ m. m ≡ x))
    (ap (composed c.args.from.now) c.in_ok-back.ensures.ok
    ∙ shared-model c.args.from.now c.args.to.now c.requires)
    c.compose_partial.ensures.ok
