use Rattle.slotted_rules.proofs.Carrying.{left-carries}
use Rattle.slotted_rules.proofs.substituting.subst_ids.Goals as goal

pub returns-clause-carries : goal.returns-clause-carries
returns-clause-carries g c = left-carries g.N.Analysis.codes g.N.Analysis.meaning c.args.graph.now c.replaced-answer.new.graph c.fail_if_short.new.graph c.replaced-answer.ensures.carries c.fail_if_short.ensures.left
