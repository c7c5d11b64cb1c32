use Rattle.slotted_proofs.specs.Equations.{to_applied}
use Rattle.slotted_classes.proofs.Chasing.{name-some, name-none}
use Rattle.slotted_classes.proofs.store.Store.found_name.Goals as goal

pub returns-in-Some : goal.returns-in-Some
returns-in-Some g c = name-some c.args.self.now c.requires.good (to_applied c.args.a.now) c.requires.findable c.args.slot c.in-Some.own c.in-Some.ensures c.get.result c.get.ensures

pub returns-in-None : goal.returns-in-None
returns-in-None g c = name-none c.args.self.now c.requires.good (to_applied c.args.a.now) c.requires.findable c.args.slot c.in-None.ensures
