-- No class so far has one.
use Rattle.std.proofs.Common.{◌≡◌, ℕ, length}
use Rattle.std.specs.Prelude.{None}
use Rattle.slotted_graph.specs.Terms.{entry_at}
use Rattle.slotted_graph.proofs.terms.no_entries.Given as goal

abbrev pub invariant-loop-k : goal.invariant-loop-k
invariant-loop-k g l = record {
  count : length l.entries.items ≡ l.k;
  none : (c : ℕ) → entry_at l.entries.items c ≡ None;
}
