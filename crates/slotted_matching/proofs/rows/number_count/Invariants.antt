use Rattle.std.proofs.Common.{ℕ, ◌<◌, ◌≤◌, take}
use Rattle.std.specs.Prelude.{Contains}
use Rattle.slotted_slots.specs.Table.{slot_limit}
use Rattle.slotted_matching.specs.KeyRows.{slot_number}
use Rattle.slotted_matching.proofs.rows.number_count.Given as goal

abbrev pub invariant-loop-i : goal.invariant-loop-i
invariant-loop-i g l = record {
  covers : (x : ℕ) → Contains (take l.i (g.L.LanguageChildren.form l.node).names) x → slot_number x < l.count;
  within : l.count ≤ slot_limit;
}
