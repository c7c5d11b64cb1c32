use Rattle.slotted_model.specs.Rest.{size}
use Rattle.slotted_classes.specs.StateOf.{state_of}
use Rattle.slotted_rebuilding.proofs.settling.+settle_all.Given as goal

abbrev pub decreases-settle_all : goal.decreases-settle_all
decreases-settle_all g l = size (state_of l.store.now)
