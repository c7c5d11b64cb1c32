use Rattle.std.proofs.Common.{◌∙◌, ap}
use Rattle.slotted_model.specs.Applied.{Applied, values}
use Rattle.slotted_model.specs.Ascending.{ascending}
use Rattle.slotted_lookup.proofs.ReportLists.{set_of-is}
use Rattle.slotted_lookup.proofs.reports.slots_of.Goals as goal

pub returns-clause-ok : goal.returns-clause-ok
returns-clause-ok g c =
    c.in_ok-slots.ensures.ok ∙ (set_of-is (values c.in_ok-found.found.m) ∙ ap (λ (a : Applied). ascending (values a.1)) c.in_ok-found.ensures.ok)
