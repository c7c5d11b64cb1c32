-- What is left where paths of finds are compressed.
--     LeadsAtOnce k i    the class i leads to a live class
--     Shortens k l       dead classes lead on at once, by proofs that assert nothing, and each class finds what it found
--     ShortensPath k l i so it is, and the class i leads at once to what it finds
--     HasLargeFoundClass k   a class has so many slots that two ids of it have too many names
use Rattle.std.specs.Prelude.{◌≡◌, ℕ, ◌<◌, length}
use Rattle.slotted_model.specs.Changes.{ProofsGrow}
use Rattle.slotted_model.specs.Find.{IsLive, entry_at, find_class, find_map}
use Rattle.slotted_model.specs.Rest.{lives_from, slots_from}
use Rattle.slotted_classes.specs.Kept.{Kept, entries_of, nodes_of, proofs_of}
use Rattle.slotted_rebuilding.specs.Proving.{HasLargeClassOf}
use Rattle.slotted_classes.specs.Stored.{Stored}
use Rattle.slotted_rebuilding.specs.Grows.{Grows}

abbrev pub LeadsAtOnce : Kept → ℕ → Type 0
LeadsAtOnce k i = IsLive (entries_of k) (entry_at (entries_of k) i).class

-- no class, row or symmetry comes, nothing is asserted, none dies, and each class finds what it found
pub record Shortens (k l : Kept) : Type 0 where
  pub stored : Stored l
  pub grows : Grows k l
  pub symmetries : l.symmetries ≡ k.symmetries
  pub deaths : l.deaths ≡ k.deaths
  pub dropped : l.dropped ≡ k.dropped
  pub asserts_nothing : ProofsGrow (nodes_of k) (proofs_of k) (proofs_of l)
  pub finds : (i : ℕ) → i < length k.classes → (find_class (entries_of l) i ≡ find_class (entries_of k) i) × (find_map (entries_of l) i ≡ find_map (entries_of k) i)
  -- as many classes live, with as many slots
  pub lives : lives_from 0 (entries_of l) ≡ lives_from 0 (entries_of k)
  pub slots : slots_from 0 (entries_of l) ≡ slots_from 0 (entries_of k)

pub record ShortensPath (k l : Kept) (i : ℕ) : Type 0 where
  pub shortens : Shortens k l
  pub at_once : LeadsAtOnce l i

abbrev pub HasLargeFoundClass : Kept → Type 0
HasLargeFoundClass k = (i : ℕ) × HasLargeClassOf k i i
