use Rattle.std.proofs.Common.{◌∙◌, ap}
use Rattle.slotted_slots.specs.Maps.{composed}
use Rattle.slotted_rebuilding.proofs.WrittenEntries.{left-differ, heir-is}
use Rattle.slotted_rebuilding.proofs.unions.linking.heir.Goals as goal

pub inverse-requires : goal.inverse-requires
inverse-requires g c =
    left-differ c.args.store.now c.requires.good c.args.q c.requires.within
    c.proofs.result.now c.proofs.ensures c.equ-equation.result.now c.equ-equation.ensures

pub returns-clause-ok : goal.returns-clause-ok
returns-clause-ok g c =
    heir-is c.args.store.now c.requires.good c.args.q c.requires.within
    c.proofs.result.now c.proofs.ensures c.equ-equation.result.now c.equ-equation.ensures
    c.in_ok-compose_partial.field-0
    (c.in_ok-compose_partial.ensures.ok ∙ ap (composed c.equ-equation.result.now.r.m) c.in_ok-names.ensures.ok)
