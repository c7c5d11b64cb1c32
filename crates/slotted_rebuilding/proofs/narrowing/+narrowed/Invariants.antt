use Rattle.slotted_model.specs.Rest.{size}
use Rattle.slotted_classes.specs.StateOf.{state_of}
use Rattle.slotted_rebuilding.proofs.narrowing.+narrowed.Given as goal

abbrev pub decreases-narrowed : goal.decreases-narrowed
decreases-narrowed g l = size (state_of l.store.now)
