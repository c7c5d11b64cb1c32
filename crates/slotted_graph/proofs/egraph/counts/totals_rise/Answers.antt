use Rattle.slotted_graph.proofs.CountedGraphs.{totals-rise}
use Rattle.slotted_graph.proofs.egraph.counts.totals_rise.Goals as goal

pub returns : goal.returns
returns g c = totals-rise g.N.Analysis.codes g.N.Analysis.meaning
