-- What the entries of a good graph say follows from their leaves alone.
use Rattle.std.specs.Prelude.{map}
use Rattle.slotted_theory.specs.Derives.{nameless_pair}
use Rattle.slotted_theory.proofs.Backward.{Equal-derives}
use Rattle.slotted_model.proofs.Finds.FindProofs.{leaves-enough}
use Rattle.slotted_model.proofs.Finds.Steps.{Equal-between}
use Rattle.slotted_classes.specs.Kept.{Kept, nodes_of, proofs_of}
use Rattle.slotted_operations.specs.Good.{Good, image_of}
use Rattle.slotted_operations.specs.Leaves.{EntriesFollow}

pub good-entries_follow : (k : Kept) → Good k → EntriesFollow (image_of k)
good-entries_follow k good p h a b fa fb e E t u has et eu =
    Equal-derives t u (Equal-between et eu (leaves-enough (map nameless_pair E) (nodes_of k) good.stored.sane.sound.canonical (proofs_of k) good.stored.sane.sound.proved p h has a b fa fb e))
