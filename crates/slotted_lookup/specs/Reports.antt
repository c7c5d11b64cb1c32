-- What a graph tells of its classes and of its filed nodes.
--     live_ids k           the classes that find themselves, ascending
--     class_sources k r c  the classes of which a node is filed and that find the class c, ascending
use Rattle.std.specs.Prelude.{ℕ, List, Bool, length, is_some, nat_eq, ◌&&◌}
use Rattle.std.specs.List.{filter, range_with_len}
use Rattle.slotted_model.specs.Find.{Entry, entry_at, find_class}
use Rattle.slotted_classes.specs.Kept.{Kept, entries_of}
use Rattle.slotted_hashcons.specs.Filed.{filed_of}
use Rattle.slotted_hashcons.specs.FiledRows.{Rows}

-- whether the class leads to itself
abbrev pub lives : List Entry → ℕ → Bool
lives found i = nat_eq (entry_at found i).class i

abbrev pub live_ids : Kept → List ℕ
live_ids k = filter (lives (entries_of k)) (range_with_len 0 (length k.classes))

-- whether a node is filed of the class i, which finds c
abbrev pub is_source : Kept → Rows → ℕ → ℕ → Bool
is_source k r c i = is_some (filed_of r.filed i) && nat_eq (find_class (entries_of k) i) c

abbrev pub class_sources : Kept → Rows → ℕ → List ℕ
class_sources k r c = filter (is_source k r c) (range_with_len 0 (length r.filed))
