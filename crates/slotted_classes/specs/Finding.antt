-- When finds can be followed, and which ids find.
--     HasFinds k         the entries lead on to live classes
--     IsFindable k a     the id has different names for all slots that its class finds, and perhaps for more of its canonical slots
--     HasFoundNames k a  it has a name for each slot that its class finds
--     FindAlike          two ids find the same
--     LivesWithAll k a   the class of the id lives, with as many slots as the id has names
use Rattle.std.specs.Prelude.{◌≡◌, ℕ, List, Contains, length}
use Rattle.slotted_model.specs.Applied.{Applied, keys}
use Rattle.slotted_model.specs.Filling.{IsValid}
use Rattle.slotted_model.specs.Find.{Entry, IsLive, Linked, entry_at, find, find_map, used_slots}
use Rattle.slotted_model.specs.Link.{IsLater}
use Rattle.slotted_classes.specs.Kept.{Kept, nodes_of, entries_of}

-- entries lead on to live classes, and links are older than the moment
pub record HasFinds (k : Kept) : Type 0 where
  pub linked : Linked (nodes_of k) (entries_of k)
  pub later : IsLater (entries_of k) k.moment

-- the id is valid by what classes find: it may lack names of slots that were dropped
abbrev pub IsFindable : Kept → Applied → Type 0
IsFindable k a = IsValid (used_slots (entries_of k)) (nodes_of k) a

-- the id has a name for what the slot t of the class that it finds stands for
abbrev pub HasFoundName : Kept → Applied → ℕ → Type 0
HasFoundName k a t = (s : ℕ) → Contains (find_map (entries_of k) a.0) (t, s) → Contains (keys a.1) s

-- and so for each slot of that class
abbrev pub HasFoundNames : Kept → Applied → Type 0
HasFoundNames k a = (s : ℕ) → Contains (used_slots (entries_of k) a.0) s → Contains (keys a.1) s

-- two ids find the same
abbrev pub FindAlike : List Entry → Applied → Applied → Type 0
FindAlike found a b = find found a ≡ find found b

-- the class of the id lives, and has as many slots left as the id has names
abbrev pub LivesWithAll : Kept → Applied → Type 0
LivesWithAll k a = IsLive (entries_of k) a.0 × (length (entry_at (entries_of k) a.0).pairs ≡ length a.1)
