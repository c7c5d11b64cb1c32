use Rattle.std.proofs.Common.{◌≡◌, take}
use Rattle.slotted_model.specs.Find.{find_map}
use Rattle.slotted_classes.specs.Kept.{entries_of}
use Rattle.slotted_lookup.proofs.finding.found_class.Given as goal

-- the pairs so far
abbrev pub invariant-loop-i : goal.invariant-loop-i
invariant-loop-i g l = l.m ≡ take l.i (find_map (entries_of l.store) l.class)
