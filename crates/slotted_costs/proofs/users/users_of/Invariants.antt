-- One row after another.
use Rattle.slotted_costs.proofs.UserLists.{UsersBefore}
use Rattle.slotted_costs.proofs.users.users_of.Given as goal

abbrev pub invariant-loop-source : goal.invariant-loop-source
invariant-loop-source g l = UsersBefore l.nodes.filed l.source l.users
