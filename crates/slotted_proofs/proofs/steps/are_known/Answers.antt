use Rattle.std.proofs.Common.{sym, ◌∙◌}
use Rattle.slotted_proofs.proofs.Written.{maps_told}
use Rattle.slotted_proofs.proofs.steps.are_known.Goals as goal

pub returns-clause-ok : goal.returns-clause-ok
returns-clause-ok c =
    let told = maps_told c.eq.result c.args.over.now c.in_ok-known.known c.eq.ensures in (
      λ y. told.0 y ∙ c.in_ok-known.ensures.ok,
      λ h. told.1 (h ∙ sym c.in_ok-known.ensures.ok),
    )
