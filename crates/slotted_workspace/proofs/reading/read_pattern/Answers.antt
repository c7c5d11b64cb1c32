use Rattle.std.proofs.Common.{inr}
use Rattle.slotted_graph.proofs.Extending.{extends-read}
use Rattle.slotted_workspace.proofs.reading.read_pattern.Goals as goal

pub returns-clause-extends : goal.returns-clause-extends
returns-clause-extends g c = inr (extends-read c.args.graph.now c.parse_pattern.new.self c.parse_pattern.ensures.reads)
