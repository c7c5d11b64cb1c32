-- Maps of what an iterator gives.
use Rattle.std.specs.Prelude.{◌≡◌, ℕ, List, Option}
use Rattle.std.specs.Iterator.{Count, Drains, IsFinite}
use Rattle.slotted_slots.specs.Maps.{map_of}

module _ {U I : Type 0} (iterates : U → I → Type 0) where
  -- each iterator over xs can be asked for its items, and ends
  abbrev pub EachIteratorEnds : (I → Type 0) → (I → Count) → U → Type 0
  EachIteratorEnds can_next remaining xs = (it : I) → iterates xs it → can_next it × IsFinite (remaining it)

  -- m is the map of the pairs that an iterator over xs gave until its end
  abbrev pub IsMapOfItems : (I → Option (ℕ × ℕ) → I → Type 0) → U → List (ℕ × ℕ) → Type 0
  IsMapOfItems next xs m = (it : I) × (given : List (ℕ × ℕ)) × iterates xs it × Drains next it given × (m ≡ map_of given)
