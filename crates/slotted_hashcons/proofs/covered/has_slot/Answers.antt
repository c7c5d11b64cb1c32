use Rattle.std.proofs.Common.{refl}
use Rattle.slotted_hashcons.proofs.CoveredNodes.{stands-some, stands-none}
use Rattle.slotted_hashcons.proofs.covered.has_slot.Goals as goal

pub returns-in-Some : goal.returns-in-Some
returns-in-Some g c = stands-some c.args.store.now c.requires.good c.args.class c.requires.within c.args.names.now c.args.slot c.in-Some.own c.in-Some.ensures c.has_value.result c.has_value.ensures.contains

pub returns-in-None : goal.returns-in-None
returns-in-None g c = (λ y. stands-none c.args.store.now c.requires.good c.args.class c.requires.within c.args.names.now c.args.slot c.in-None.ensures, λ h. refl)
