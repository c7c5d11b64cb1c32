use Rattle.std.proofs.Common.{◌≡◌, ◌≤◌, ◌+◌, ◌*◌, ◌^◌, drop}
use Rattle.slotted_model.specs.Rest.{size_from}
use Rattle.slotted_classes.specs.Kept.{entries_of, size_of}
use Rattle.slotted_data.specs.Counted.{heights_of}
use Rattle.slotted_data.specs.Pending.{lives_in}
use Rattle.slotted_data.proofs.counts.size_with_heights.Given as goal

-- the classes so far, and those that are left
abbrev pub invariant-loop-class : goal.invariant-loop-class
invariant-loop-class g l = record {
  sum : l.size + (size_from l.class (drop l.class (entries_of l.store)) + heights_of (lives_in l.store) (g.N.Analysis.meaning l.analysis) l.class (drop l.class l.data.values)) ≡ size_of l.store + heights_of (lives_in l.store) (g.N.Analysis.meaning l.analysis) 0 l.data.values;
  few : l.size ≤ l.class * (2 ^ 64 + 2 ^ 32);
}
