use Rattle.std.proofs.Common.{◌≡◌, ◌∙◌, ap, subst}
use Rattle.std.specs.Prelude.{IfOk}
use Rattle.slotted_slots.specs.Maps.{composed}
use Rattle.slotted_model.specs.Correspondence.{composite}
use Rattle.slotted_proofs.proofs.Bridges.{composed-model}
use Rattle.slotted_hashcons.specs.Sides.{number_partners}
use Rattle.slotted_hashcons.proofs.sides.partners.Goals as goal

pub returns-clause-ok : goal.returns-clause-ok
returns-clause-ok c =
    let e : composed c.in_ok-numbered.numbered c.args.names.now ≡ number_partners c.args.names.now c.args.others.now c.args.right.now =
    composed-model c.in_ok-numbered.numbered c.args.names.now
    ∙ ap (λ m. composite m c.args.names.now)
    c.in_ok-numbered.ensures.ok in
    subst (λ n. IfOk c.compose_partial.result (λ m. m ≡ n)) e c.compose_partial.ensures.ok
