-- The rule is valid everywhere.
use Rattle.std.proofs.Common.{inr}
use Rattle.slotted_run_lines.proofs.reports.counted_at_once.Goals as goal

pub run_eqsat-requires : goal.run_eqsat-requires
run_eqsat-requires c = inr (λ i r l. tt)
