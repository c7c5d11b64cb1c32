-- Finding: each class has an entry that leads to another class, or to itself if it lives, and a find follows the entries.
--     Entry                the class that an entry leads to, and which canonical slot each slot of that class stands for
--     find_class found i   the live class at the end of the entries from class i
--     find_map found i     which canonical slot of i each slot of that class stands for
--     find found a         the applied id a in normal form
--     Linked nodes found   what holds of the entries of each graph
use Rattle.std.specs.Prelude.{◌≡◌, ℕ, zero, suc, ◌+◌, ◌<◌, List, [], ◌∷◌, length, max, slice_index_or, Contains, ◌⊎◌}
use Rattle.std.specs.Map.{keys_of, values_of}
use Rattle.slotted_theory.specs.Nameless.{DTerm}
use Rattle.slotted_model.specs.Ascending.{ascending}
use Rattle.slotted_model.specs.Applied.{Applied}
use Rattle.slotted_model.specs.Classes.{canonical_slots}
use Rattle.slotted_model.specs.Correspondence.{composite, identity, IsPartialInjection}

-- where a class leads: a class, pairs of slots of that class with canonical slots of this one, the number of the proof, and the moment of the link
pub record Entry : Type 0 where
  pub class : ℕ
  pub pairs : List (ℕ × ℕ)
  pub proof : ℕ
  pub died : ℕ

-- the entry of a class
abbrev pub entry_at : List Entry → ℕ → Entry
entry_at found i = slice_index_or found i (record { class = 0; pairs = []; proof = 0; died = 0 })

-- the class leads to itself
abbrev pub IsLive : List Entry → ℕ → Type 0
IsLive found i = (entry_at found i).class ≡ i

-- a number above the moments of all links
abbrev pub moments : List Entry → ℕ
moments [] = 0
moments (e ∷ found) = max (e.died + 1) (moments found)

-- what class i becomes if n entries are followed, and at last the pairs of the class that is reached: a live class stays as it is
abbrev pub chased : List Entry → ℕ → ℕ → Applied
chased found zero i = (i, (entry_at found i).pairs)
chased found (suc n) i = ((chased found n (entry_at found i).class).0, composite (chased found n (entry_at found i).class).1 (entry_at found i).pairs)

-- the class at the end of the entries from i: as moments of death rise along them, so many are always enough
abbrev pub find_class : List Entry → ℕ → ℕ
find_class found i = (chased found (moments found) i).0

-- the slots of that class with the canonical slots of i that they stand for
abbrev pub find_map : List Entry → ℕ → List (ℕ × ℕ)
find_map found i = (chased found (moments found) i).1

-- the canonical slots of i that a find still uses; of a live class these are its slots
abbrev pub used_slots : List Entry → ℕ → List ℕ
used_slots found i = ascending (values_of (find_map found i))

-- the applied id in normal form: the class that is found, with the id's names at the slots that are used
abbrev pub find : List Entry → Applied → Applied
find found a = (find_class found a.0, composite (find_map found a.0) a.1)

-- what holds of the entries of each graph
pub record Linked (nodes : List DTerm) (found : List Entry) : Type 0 where
  -- each class has an entry
  pub entries : length found ≡ length nodes
  -- an entry leads to a class
  pub in_range : (i : ℕ) → i < length nodes → (entry_at found i).class < length nodes
  -- it pairs canonical slots of that class with different ones of its own
  pub maps : (i : ℕ) → i < length nodes →
      IsPartialInjection (canonical_slots nodes (entry_at found i).class) (canonical_slots nodes i) (entry_at found i).pairs
  -- a live class pairs each of its slots with itself
  pub live : (i : ℕ) → i < length nodes → IsLive found i → (entry_at found i).pairs ≡ identity (keys_of (entry_at found i).pairs)
  -- an entry leads to a class that lives or died later
  pub ends : (i : ℕ) → i < length nodes → IsLive found (entry_at found i).class ⊎
      ((entry_at found i).died < (entry_at found (entry_at found i).class).died)
  -- it knows each slot that the next find uses
  pub uses : (i : ℕ) → i < length nodes → (s : ℕ) → Contains (values_of (find_map found (entry_at found i).class)) s → Contains (keys_of (entry_at found i).pairs) s
