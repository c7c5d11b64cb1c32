use Rattle.slotted_rules.proofs.Carrying.{failed-or-lowers}
use Rattle.slotted_rules.proofs.written.RewriteRewriteT.apply.Goals as goal

pub returns-in_err-apply_matches-clause-lowers : goal.returns-in_err-apply_matches-clause-lowers
returns-in_err-apply_matches-clause-lowers g c = failed-or-lowers g.N.Analysis.codes g.N.Analysis.meaning c.args.graph.now c.apply_matches.new.graph c.apply_matches.ensures.carries

pub returns-clause-lowers : goal.returns-clause-lowers
returns-clause-lowers g c = failed-or-lowers g.N.Analysis.codes g.N.Analysis.meaning c.args.graph.now c.apply_matches.new.graph c.apply_matches.ensures.carries
