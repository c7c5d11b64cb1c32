-- The entries from a place on are placed.
use Rattle.std.proofs.Common.{◌≡◌, length, take}
use Rattle.slotted_graph.specs.Placing.{ArePlaced}
use Rattle.slotted_graph.proofs.terms.place.Given as goal

abbrev pub decreases-loop-entry : goal.decreases-loop-entry
decreases-loop-entry g l = length l.left.items

abbrev pub invariant-loop-entry : goal.invariant-loop-entry
invariant-loop-entry g l = record {
  count : length l.placed.items ≡ l.classes;
  left : l.left.items ≡ take (length l.left.items) l.fn.entries.items;
  placed : ArePlaced l.store l.fn.entries.items (length l.left.items) l.placed.items;
}
