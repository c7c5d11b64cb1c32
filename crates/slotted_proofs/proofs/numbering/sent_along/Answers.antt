use Rattle.std.proofs.Common.{◌≡◌, ◌∙◌, IfOk, ap, subst}
use Rattle.slotted_slots.specs.Maps.{composed}
use Rattle.slotted_model.specs.Correspondence.{same_names}
use Rattle.slotted_proofs.proofs.Bridges.{composed-model}
use Rattle.slotted_proofs.proofs.numbering.sent_along.Goals as goal

pub returns-clause-ok : goal.returns-clause-ok
returns-clause-ok c =
    subst (λ x. IfOk c.compose_partial.result (λ m. m ≡ x))
    (ap (composed c.args.pairs.now) c.in_ok-names.ensures.ok
    ∙ composed-model c.args.pairs.now (same_names c.args.from.now c.args.to.now))
    c.compose_partial.ensures.ok
