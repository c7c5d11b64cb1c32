-- The rule is valid everywhere.
use Rattle.std.proofs.Common.{inr}
use Rattle.slotted_run_lines.proofs.reports.write_run.Goals as goal

pub run-requires : goal.run-requires
run-requires g c = inr (λ i r l. tt)

pub run-requires-2 : goal.run-requires-2
run-requires-2 g c = inr (λ i r l. tt)
