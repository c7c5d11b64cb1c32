use Rattle.std.proofs.Common.{◌∙◌}
use Rattle.slotted_costs.proofs.UserLists.{key-counted}
use Rattle.slotted_costs.proofs.users.child_count.Goals as goal

pub returns-in-Some-clause-count : goal.returns-in-Some-clause-count
returns-in-Some-clause-count g c = c.applied_id_count.ensures ∙ key-counted c.args.nodes.now.filed c.args.source _ _ c.in-Some.ensures
