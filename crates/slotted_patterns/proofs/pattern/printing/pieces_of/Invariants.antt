-- What the pieces so far and the rest of the elements print.
use denote.Shadow.{shadow}
use denote.Text.{Utf8}
use Rattle.std.proofs.Common.{◌≡◌, [], ◌≤◌, ◌+◌, ◌*◌, ◌++◌, map, reverse, drop, length}
use Rattle.slotted_slots.specs.Syntax.{element_of}
use Rattle.slotted_slots.specs.Table.{Table}
use Rattle.slotted_patterns.specs.Pieces.{pattern_weights, texts, weights}
use Rattle.slotted_patterns.specs.Shown.{part_texts, pattern_text, spaced}
use Rattle.slotted_patterns.proofs.pattern.printing.pieces_of.Given as goal

abbrev pub invariant-loop-element : goal.invariant-loop-element
invariant-loop-element g l =
    let w = g.L.LanguageChildren.shown in
    shadow (Utf8 l.separator)
    × (l.next + length l.elements.items ≤ length l.fn.elements.items)
    × ((t : Table) → texts w t l.pieces.items ++ spaced l.separator (part_texts t (map element_of (reverse l.elements.items)) (drop l.next (map (pattern_text w t) l.children)))
    ≡ spaced [] (part_texts t (map element_of l.fn.elements.items) (map (pattern_text w t) l.children)))
    × (weights w l.pieces.items + (2 * length l.elements.items + pattern_weights w (drop l.next l.children)) ≤ 2 * length l.fn.elements.items + pattern_weights w l.children)

abbrev pub decreases-loop-element : goal.decreases-loop-element
decreases-loop-element g l = length l.elements.items
