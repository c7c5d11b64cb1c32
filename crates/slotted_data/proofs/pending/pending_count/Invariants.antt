use Rattle.std.proofs.Common.{◌≡◌, ◌≤◌, take}
use Rattle.std.specs.Prelude.{count_by}
use Rattle.slotted_data.specs.Pending.{lives_in}
use Rattle.slotted_data.proofs.pending.pending_count.Given as goal

-- the live ones so far
abbrev pub invariant-loop-k : goal.invariant-loop-k
invariant-loop-k g l = record {
  count : l.count ≡ count_by (lives_in l.store) (take l.k l.data.changed);
  few : l.count ≤ l.k;
}
