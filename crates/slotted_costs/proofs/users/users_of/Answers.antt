use Rattle.std.proofs.Common.{◌∙◌, arith}
use Rattle.slotted_costs.proofs.UserLists.{users-start, users-next, users-all}
use Rattle.slotted_costs.proofs.users.users_of.Goals as goal

pub loop-source-init : goal.loop-source-init
loop-source-init g c = users-start c.args.nodes.now.filed c.in_ok-users.users (c.in_ok-users.ensures.lists ∙ c.class_count.ensures) c.in_ok-users.ensures.none

pub loop-source-preserved : goal.loop-source-preserved
loop-source-preserved g c = users-next c.args.nodes.now.filed c.loop-source.source c.loop-source.users c.add_row.new.users c.loop-source.invariant c.in_ok-add_row.ensures.ok

pub returns-clause-ok : goal.returns-clause-ok
returns-clause-ok g c = users-all c.args.nodes.now.filed c.loop-source.source c.loop-source.users (omega (arith, c.loop-source-test.false, c.class_count-source-end.ensures)) c.loop-source.invariant
