use Rattle.slotted_classes.proofs.Chasing.{moments_left}
use Rattle.slotted_classes.proofs.store.Store.+found_slot.Given as goal

abbrev pub decreases-found_slot : goal.decreases-found_slot
decreases-found_slot g l = moments_left l.self.now l.id
