use Rattle.std.proofs.Common.{inr}
use Rattle.slotted_graph.proofs.CallerLemmas.{term_later}
use Rattle.slotted_run_lines.proofs.graphs.explained.Goals as goal

pub explain_equivalence-requires-clause-left : goal.explain_equivalence-requires-clause-left
explain_equivalence-requires-clause-left g c = inr (term_later c.parse_expr.new.self.table c.parse_expr-2.new.self.table c.in_ok-r.ensures.reads.more c.in_ok-l.l c.in_ok-l.ensures.valid)
