-- What was written so far, and what the rest of the elements prints.
use denote.Shadow.{shadow}
use denote.Text.{Utf8}
use Rattle.std.proofs.Common.{◌≡◌, ◌≤◌, [], ◌++◌, map, drop, string_bytes}
use Rattle.slotted_slots.specs.Syntax.{element_of}
use Rattle.slotted_patterns.specs.Shown.{part_texts, spaced}
use Rattle.slotted_patterns.proofs.show.node_text.Given as goal

abbrev pub invariant-loop-element : goal.invariant-loop-element
invariant-loop-element l =
    shadow (Utf8 l.separator)
    × (l.next ≤ l.element-index)
    × (string_bytes l.text ++ spaced l.separator (part_texts l.table (map element_of (drop l.element-index l.elements)) (drop l.next (map string_bytes l.children)))
    ≡ spaced [] (part_texts l.table (map element_of l.elements) (map string_bytes l.children)))
