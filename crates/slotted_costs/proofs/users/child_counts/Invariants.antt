-- The counts so far.
use Rattle.std.proofs.Common.{◌≡◌, ◌<◌, ℕ, length}
use Rattle.std.specs.Prelude.{slice_index_or}
use Rattle.slotted_hashcons.specs.Filed.{filed_of}
use Rattle.slotted_costs.specs.Prices.{children_of}
use Rattle.slotted_costs.specs.Counts.{IsKeyOf}
use Rattle.slotted_costs.proofs.users.child_counts.Given as goal

abbrev pub invariant-loop-source : goal.invariant-loop-source
invariant-loop-source g l = record {
  count : length l.counts.items ≡ l.source;
  each : (i : ℕ) → i < l.source → slice_index_or l.counts.items i 0 ≡ length (children_of l.nodes.filed i);
  keys : (i : ℕ) → i < l.source → IsKeyOf g.L.LanguageChildren.form (filed_of l.nodes.filed i);
}
