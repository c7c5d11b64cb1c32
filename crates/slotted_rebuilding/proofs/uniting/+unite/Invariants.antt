use Rattle.slotted_model.specs.Rest.{size}
use Rattle.slotted_classes.specs.StateOf.{state_of}
use Rattle.slotted_rebuilding.proofs.uniting.+unite.Given as goal

abbrev pub decreases-unite : goal.decreases-unite
decreases-unite g l = size (state_of l.store.now)
