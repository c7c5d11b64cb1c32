use Rattle.std.proofs.Common.{◌∙◌, sym}
use Rattle.slotted_proofs.proofs.Bridges.{differ_injective}
use Rattle.slotted_term_lines.proofs.reading.applied.Goals as goal

pub returns-then-is_bijection : goal.returns-then-is_bijection
returns-then-is_bijection c = differ_injective c.in_ok-applied.applied.m (sym c.is_bijection.ensures ∙ c.if-is_bijection.true)
