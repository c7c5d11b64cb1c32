use Rattle.std.proofs.Common.{subst}
use Rattle.slotted_classes.specs.Kept.{Kept, ListsDead, entries_of}
use Rattle.slotted_classes.proofs.store.Store.deaths.Goals as goal

pub returns-clause-just : goal.returns-clause-just
returns-clause-just g c = subst (λ (k : Kept). ListsDead k.deaths (entries_of k)) c.self.view_is c.self.invariant.dead
