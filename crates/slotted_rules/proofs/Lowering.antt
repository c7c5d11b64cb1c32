-- Data goes down by one call after another.
use Rattle.std.proofs.Common.{inl, inr}
use Rattle.std.specs.Prelude.{◌⊎◌, IsTrue}
use Rattle.std.specs.Coded.{Coded}
use Rattle.slotted_data.specs.Meaning.{IsMergeOf, Meaning}
use Rattle.slotted_operations.specs.Graph.{Graph}
use Rattle.slotted_graph.specs.Analysed.{LowersData}
use Rattle.slotted_graph.specs.Extension.{ExtendsTo}
use Rattle.slotted_graph.proofs.Saying.{lowers-then}

-- the later call may have failed the graph
pub later-lowers : {N D : Type 0} (codes : Coded N × Coded D) (meaning : N → Meaning D) → ((n : N) → IsMergeOf (meaning n)) → (f g h : Graph) → ExtendsTo f g → LowersData codes meaning f g →
    IsTrue h.failed ⊎ LowersData codes meaning g h → IsTrue h.failed ⊎ LowersData codes meaning f h
later-lowers codes meaning law f g h extends first (inl failed) = inl failed
later-lowers codes meaning law f g h extends first (inr second) = inr (lowers-then codes meaning law f g h extends first second)
