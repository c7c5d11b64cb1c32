use Rattle.std.proofs.Common.{◌≡◌, ℕ, [], length, map}
use Rattle.std.specs.Prelude.{slice_index_or}
use Rattle.slotted_matching.proofs.index.no_sources.Given as goal

abbrev pub invariant-loop-class : goal.invariant-loop-class
invariant-loop-class l = record {
  count : length l.sources.items ≡ l._class;
  none : (c : ℕ) → slice_index_or (map (λ b. b.items) l.sources.items) c [] ≡ [];
}
