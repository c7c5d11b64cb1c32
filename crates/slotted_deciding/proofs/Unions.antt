-- What a union leaves of which the equation stood.
use Rattle.std.proofs.Common.{◌≡◌, ℕ, inl, inr}
use Rattle.std.specs.Prelude.{◌⊎◌, ◌↔◌, Bool, IsTrue, Option, List, false, true}
use Rattle.slotted_slots.specs.declared.types.AppliedId.{AppliedId}
use Rattle.slotted_slots.specs.Table.{KnowsMore}
use Rattle.slotted_model.specs.Growth.{Extends}
use Rattle.slotted_model.specs.Applied.{Applied, values}
use Rattle.slotted_model.specs.ProofList.{equation_of}
use Rattle.slotted_model.proofs.Represented.Fillings.{fills-itself}
use Rattle.slotted_proofs.specs.Equations.{to_applied}
use Rattle.slotted_operations.specs.Graph.{Graph, IsFullId, RecordsUnion}
use Rattle.slotted_operations.specs.Image.{AddsClasses, FillApart, IsUnion, StandsIn}
use Rattle.slotted_graph.specs.States.{IsGraph}
use Rattle.slotted_graph.proofs.Extending.{extends-added, extends-united}
use Rattle.slotted_deciding.specs.Steps.{GoesTo}

pub goes-added : (g h : Graph) → IsGraph h → Extends g.image.canonical h.image.canonical → AddsClasses g.image h.image → KnowsMore g.table h.table → GoesTo g h
goes-added g h is extends adds more = record { graph = is; extends = extends-added g h extends adds more; asserted = adds.asserted }

-- full ids are filled by themselves
fill-themselves : (g : Graph) (a b : Applied) → IsFullId g a → IsFullId g b → FillApart g.image a b a b
fill-themselves g a b fa fb = record {
  left_fills = fills-itself g.image.canonical (values b.1) a fa.full;
  right_fills = fills-itself g.image.canonical (values a.1) b fb.full;
}

pub goes-united : (g h : Graph) (a b : AppliedId) (text : Option (List ℕ)) (y : Bool) → IsGraph h → IsFullId g (to_applied a) → IsFullId g (to_applied b) → StandsIn g.image (equation_of (to_applied a) (to_applied b)) →
    IsUnion g.image h.image (to_applied a) (to_applied b) y → RecordsUnion g h a b text → h.table ≡ g.table → GoesTo g h
goes-united g h a b text y is fa fb stands union records table = record {
  graph = is;
  extends = extends-united g h a b text y union records table;
  asserted = elim (union.asserts (to_applied a) (to_applied b) (fill-themselves g (to_applied a) (to_applied b) fa fb)).asserted [
    | inl q ↦ q.1
    | inr q ↦ absurd (q.0 stands)
  ];
}

-- an id that is said to be full is
pub said-full : (g : Graph) (a : Applied) (b : Bool) → IsTrue b ↔ ((g.failed ≡ false) × IsFullId g a) → b ≡ true → IsFullId g a
said-full g a b says e = (says.0 e).1

-- a graph that has not failed is one
pub good-graph : (g : Graph) → ¬ IsTrue g.failed → IsTrue g.failed ⊎ IsGraph g → IsGraph g
good-graph g well (inl failed) = absurd (well failed)
good-graph g well (inr is) = is
