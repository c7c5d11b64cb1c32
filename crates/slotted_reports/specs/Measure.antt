-- How far a graph is.
--     entry_slots k c   how many slots the entry of the class c has: of a live class, those that it has left
--     live_slots k      those of all live classes together
use Rattle.std.specs.Prelude.{ℕ, length}
use Rattle.std.specs.List.{sum_by}
use Rattle.slotted_model.specs.Find.{entry_at}
use Rattle.slotted_classes.specs.Kept.{Kept, entries_of}
use Rattle.slotted_lookup.specs.Reports.{live_ids}

abbrev pub entry_slots : Kept → ℕ → ℕ
entry_slots k c = length (entry_at (entries_of k) c).pairs

abbrev pub live_slots : Kept → ℕ
live_slots k = sum_by (entry_slots k) (live_ids k)
