use Rattle.std.proofs.Common.{inr}
use Rattle.slotted_graph.proofs.Extending.{extends-takes}
use Rattle.slotted_rules.proofs.Carrying.{carries-takes}
use Rattle.slotted_rules.proofs.written.RewriteRewriteT.search.Goals as goal

pub returns-clause-extends : goal.returns-clause-extends
returns-clause-extends g c = inr (extends-takes c.args.graph.now c.find_matches.new.self c.find_matches.ensures.takes)

pub returns-clause-lowers : goal.returns-clause-lowers
returns-clause-lowers g c = inr (carries-takes g.N.Analysis.codes g.N.Analysis.meaning g.met.N.Analysis.is_merge {P = Unit {0}} c.args.graph.now c.find_matches.new.self c.find_matches.ensures.takes).lowers
