-- What was written so far, and what the rest of the pairs prints.
use denote.Shadow.{shadow}
use denote.Text.{Utf8}
use Rattle.std.proofs.Common.{◌≡◌, ℕ, List, [], ◌++◌, drop, codes}
use Rattle.std.specs.Fmt.{HasWritten, IsPlainFormatter}
use Rattle.slotted_slots.specs.Shown.{shown_pairs}
use Rattle.slotted_slots.proofs.slot_map.showing.SlotMapShow.write_shown.Given as goal

abbrev pub invariant-loop-pair : goal.invariant-loop-pair
invariant-loop-pair g l =
    shadow (Utf8 l.separator)
    × (IsPlainFormatter l.fn.f → (done : List ℕ) × HasWritten g.W.Write.write_str_gives l.fn.f done l.f
    × (done ++ shown_pairs l.table l.separator (drop l.pair-index l.pair-items) ≡ codes "[" ++ shown_pairs l.table [] l.pair-items))
