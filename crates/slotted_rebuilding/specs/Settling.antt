-- Listed symmetries of which not each is aligned.
--     IsUnaligned k p    p is the proof of a listed symmetry that is not aligned
--     AreAligned k       each listed symmetry is
--     HasLargeUnaligned k      a class that finds what the class of a listed symmetry that is not aligned finds has too many slots
use Rattle.std.specs.Prelude.{◌≡◌, ℕ, Contains}
use Rattle.slotted_model.specs.Rest.{IsAligned}
use Rattle.slotted_model.specs.State.{Symmetry}
use Rattle.slotted_classes.specs.Kept.{Kept}
use Rattle.slotted_rebuilding.specs.Proving.{HasLargeClassOf}
use Rattle.slotted_classes.specs.StateOf.{state_of}

-- p is the proof of a listed symmetry whose sides find different sets of names
pub record IsUnaligned (k : Kept) (p : ℕ) : Type 0 where
  pub symmetry : Symmetry
  pub listed : Contains (state_of k).symmetries symmetry
  pub proof : symmetry.proof ≡ p
  pub unaligned : ¬ IsAligned (state_of k) symmetry

abbrev pub AreAligned : Kept → Type 0
AreAligned k = (y : Symmetry) → Contains (state_of k).symmetries y → IsAligned (state_of k) y

-- a class that finds what the class of a listed symmetry finds which is not aligned has so many slots that two ids of it have too many names
pub record HasLargeUnaligned (k : Kept) : Type 0 where
  pub symmetry : Symmetry
  pub listed : Contains (state_of k).symmetries symmetry
  pub unaligned : ¬ IsAligned (state_of k) symmetry
  pub large : HasLargeClassOf k symmetry.class symmetry.class
