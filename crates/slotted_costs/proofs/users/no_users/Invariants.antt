-- The empty lists so far.
use Rattle.std.proofs.Common.{◌≡◌, ℕ, [], length}
use Rattle.std.specs.Prelude.{slice_index_or}
use Rattle.slotted_costs.proofs.users.no_users.Given as goal

abbrev pub invariant-loop-k : goal.invariant-loop-k
invariant-loop-k l = record {
  lists : length l.users ≡ l.k;
  none : (c : ℕ) → slice_index_or l.users c [] ≡ [];
}
