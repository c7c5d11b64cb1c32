use Rattle.std.proofs.Common.{refl}
use Rattle.slotted_proofs.specs.Equations.{to_applied}
use Rattle.slotted_classes.proofs.Chasing.{has-name, no-name}
use Rattle.slotted_classes.proofs.store.Store.has_found_name.Goals as goal

pub returns-in-Some : goal.returns-in-Some
returns-in-Some g c = has-name c.args.self.now c.requires.good (to_applied c.args.a.now) c.requires.within c.args.slot c.in-Some.own c.in-Some.ensures c.contains_key.result c.contains_key.ensures

pub returns-in-None : goal.returns-in-None
returns-in-None g c = (λ y. no-name c.args.self.now c.requires.good (to_applied c.args.a.now) c.requires.within c.args.slot c.in-None.ensures, λ h. refl)
