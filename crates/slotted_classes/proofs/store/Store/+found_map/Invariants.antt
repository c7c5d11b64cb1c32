use Rattle.slotted_classes.proofs.Chasing.{moments_left}
use Rattle.slotted_classes.proofs.store.Store.+found_map.Given as goal

abbrev pub decreases-found_map : goal.decreases-found_map
decreases-found_map g l = moments_left l.self.now l.id
