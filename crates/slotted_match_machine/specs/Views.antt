-- Names and occurrences as they are read: where they stand, without a copy.
--     IsIn               the frame is one of those that were given
--     names_of           the names of a frame, among all that were given
--     names_at           the names that are read: all of a frame, or those of numbers
--     number_at          the number in the frame of the name at a position
--     occurrence_of      the occurrence that is read through a view
--     occurrences_in     the occurrences at the children of a register
use Rattle.std.specs.Prelude.{ℕ, ◌+◌, ◌≤◌, List, Option, Some, None, take, drop, length, map, slice_index_or}
use denote.Ref.{Bor}
use Rattle.slotted_match_machine.specs.Machine.{Occurrence, named, child_occurrence}
use Rattle.slotted_match_machine.specs.declared.names.Frame.{Frame}
use Rattle.slotted_match_machine.specs.declared.names.Names.{Names}
use Rattle.slotted_match_machine.specs.declared.view.View.{View}
use Rattle.slotted_match_machine.specs.declared.view.Register.{Register}

abbrev pub IsIn : List ℕ → Frame → Type 0
IsIn frames f = f.start + f.count ≤ length frames

abbrev pub names_of : List ℕ → Frame → List ℕ
names_of frames f = take f.count (drop f.start frames)

abbrev pub names_by : Option (Bor (List ℕ)) → List ℕ → List ℕ
names_by None names = names
names_by (Some numbers) names = named names numbers.now

abbrev pub names_at : List ℕ → Names → List ℕ
names_at frames n = names_by n.numbers (names_of frames n.frame)

abbrev pub number_in : Option (Bor (List ℕ)) → ℕ → ℕ → ℕ
number_in None p past = p
number_in (Some numbers) p past = slice_index_or numbers.now p past

-- one past the frame, if there is no name at the position
abbrev pub number_at : Names → ℕ → ℕ
number_at n p = number_in n.numbers p n.frame.count

abbrev pub occurrence_of : List ℕ → View → Occurrence
occurrence_of frames v = record { class = v.class; names = names_at frames v.names }

abbrev pub occurrences_in : List ℕ → Register → List Occurrence
occurrences_in frames r = map (child_occurrence (names_of frames r.frame)) r.children.now
