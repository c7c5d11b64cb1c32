-- The clock is read where there was no start.
use Rattle.slotted_rules.specs.Seen.{parts_of}
use Rattle.slotted_rules.proofs.Turns.{begun-before, begun-now}
use Rattle.slotted_rules.proofs.runner.Runner.begin.Goals as goal

pub returns-in-Some : goal.returns-in-Some
returns-in-Some g c = begun-before g.K.Clock.tells (parts_of c.args.self.now) c.in-Some.start c.in-Some.is

pub returns-in-None : goal.returns-in-None
returns-in-None g c = begun-now g.K.Clock.tells (parts_of c.args.self.now) c.now-start.result c.now-start.new.self c.in-None.is c.now-start.ensures
