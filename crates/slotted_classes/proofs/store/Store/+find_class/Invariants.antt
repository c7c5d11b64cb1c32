use Rattle.slotted_classes.proofs.Chasing.{moments_left}
use Rattle.slotted_classes.proofs.store.Store.+find_class.Given as goal

abbrev pub decreases-find_class : goal.decreases-find_class
decreases-find_class g l = moments_left l.self.now l.id
