use Rattle.slotted_match_machine.proofs.Naming.{name-in, name-past}
use Rattle.slotted_match_machine.proofs.names.Names.get.Goals as goal

pub returns-then-number-self : goal.returns-then-number-self
returns-then-number-self c = name-in c.args.frames.now c.args.self.now c.args.position c.number-number.result c.number-number.ensures c.if-number-self.true

pub returns-else-number-self : goal.returns-else-number-self
returns-else-number-self c = name-past c.args.frames.now c.args.self.now c.args.position c.number-number.result c.number-number.ensures c.if-number-self.false
