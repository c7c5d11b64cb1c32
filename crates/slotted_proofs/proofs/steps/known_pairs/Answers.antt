use Rattle.std.proofs.Common.{◌≡◌, IfOk, ap, ◌∙◌, subst}
use Rattle.slotted_slots.specs.Maps.{composed}
use Rattle.slotted_model.specs.Correspondence.{composite, same_names}
use Rattle.slotted_proofs.proofs.Bridges.{composed-model}
use Rattle.slotted_proofs.proofs.steps.known_pairs.Goals as goal

pub returns-clause-ok : goal.returns-clause-ok
returns-clause-ok c =
    let l = c.args.first.now.l.m in
    let r = c.args.first.now.r.m in
    subst (λ x. IfOk c.compose_partial.result (λ m. m ≡ x))
    (ap (λ m. composed m c.args.asked.now) c.in_ok-known.ensures.ok
    ∙ composed-model (composite (same_names l r) (same_names r l)) c.args.asked.now)
    c.compose_partial.ensures.ok
