use Rattle.std.proofs.Common.{◌≤◌, map, take}
use Rattle.slotted_classes.specs.Kept.{symmetry_entry}
use Rattle.slotted_operations.specs.Good.{image_of}
use Rattle.slotted_operations.specs.Image.{CountsOpen}
use Rattle.slotted_operations.proofs.uniting.open_symmetries.Given as goal

-- so many of the symmetries so far are open
abbrev pub invariant-loop-symmetry : goal.invariant-loop-symmetry
invariant-loop-symmetry g l =
    record {
      counts : CountsOpen (image_of l.store) (map symmetry_entry (take l.symmetry-index l.symmetry-items)) l.count;
      few : l.count ≤ l.symmetry-index;
    }
