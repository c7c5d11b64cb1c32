use Rattle.std.proofs.Common.{◌≡◌, ◌≤◌, length}
use Rattle.slotted_data.specs.Made.{AddsNew}
use Rattle.slotted_data.proofs.making.add_new.Given as goal

-- the classes so far have data
abbrev pub invariant-loop-i : goal.invariant-loop-i
invariant-loop-i g l = record {
  new : AddsNew (g.N.Analysis.meaning l.analysis) l.store l.fn.data l.data;
  count : length l.data.values ≡ l.i;
  within : l.i ≤ l.i-end;
}
