-- The elements from here on are no texts, and have so many children.
use Rattle.std.proofs.Common.{◌≡◌, ◌≤◌, ◌+◌, drop, length, map}
use Rattle.slotted_slots.specs.Syntax.{element_of}
use Rattle.slotted_patterns.specs.Shown.{total_width}
use Rattle.slotted_patterns.specs.ReadAgain.{HasNoText}
use Rattle.slotted_terms.proofs.reader.last_bracket.Given as goal

abbrev pub invariant-loop-begin : goal.invariant-loop-begin
invariant-loop-begin l = record {
  within : l.begin + l.count ≤ length l.elements;
  bare : HasNoText (drop l.begin (map element_of l.elements));
  width : total_width (drop l.begin (map element_of l.elements)) ≡ l.count;
}

abbrev pub decreases-loop-begin : goal.decreases-loop-begin
decreases-loop-begin l = l.begin
