use Rattle.slotted_classes.proofs.Chasing.{moments_left}
use Rattle.slotted_rebuilding.proofs.unions.proving.+find_proof.Given as goal

abbrev pub decreases-find_proof : goal.decreases-find_proof
decreases-find_proof g l = moments_left l.store.now l.id
