-- What holds of what is kept between all inner steps of a union.
--     Stored k     the state is sane, its proof list is proved, and each listed symmetry is written over ids that find; no proof is listed twice
use Rattle.std.specs.Prelude.{◌≡◌, ℕ, List, All, Contains, IsTrue, false, map}
use Rattle.slotted_slots.specs.Table.{Table, is_known}
use Rattle.slotted_model.specs.Applied.{Applied, keys, values}
use Rattle.slotted_model.specs.Correspondence.{AllDifferent}
use Rattle.slotted_model.specs.Link.{IsLater}
use Rattle.slotted_model.specs.Rest.{Sane, IsAligned}
use Rattle.slotted_model.specs.State.{Symmetry}
use Rattle.slotted_proofs.specs.Proving.{IsProved}
use Rattle.slotted_classes.specs.Finding.{IsFindable}
use Rattle.slotted_classes.specs.Kept.{Kept, SymmetryEntry, nodes_of, entries_of}
use Rattle.slotted_classes.specs.StateOf.{state_of}

-- each table of slots knows the names of the id: they are numeric
abbrev pub IsKnownToEach : Applied → Type 0
IsKnownToEach a = (t : Table) → All (λ x. IsTrue (is_known t x)) (values a.1)

-- the sides of a listed symmetry are two ids of one class, over the same slots, with names that each table knows
pub record IsOverOneClass (k : Kept) (y : SymmetryEntry) : Type 0 where
  pub left : IsFindable k y.0.0
  pub right : IsFindable k y.0.1
  pub class : y.0.1.0 ≡ y.0.0.0
  pub slots : keys y.0.1.1 ≡ keys y.0.0.1
  pub left_known : IsKnownToEach y.0.0
  pub right_known : IsKnownToEach y.0.1

-- the numbers of the proofs of the listed symmetries
abbrev pub proofs_listed : Kept → List ℕ
proofs_listed k = map (λ (y : SymmetryEntry). y.1) k.symmetries

pub record Stored (k : Kept) : Type 0 where
  pub sane : Sane (state_of k)
  pub proved : IsProved (nodes_of k) k.proofs
  pub later : IsLater (entries_of k) k.moment
  pub sides : (y : SymmetryEntry) → Contains k.symmetries y → IsOverOneClass k y
  pub once : AllDifferent (proofs_listed k)
  pub settled : k.dropped ≡ false → (y : Symmetry) → Contains (state_of k).symmetries y → IsAligned (state_of k) y
