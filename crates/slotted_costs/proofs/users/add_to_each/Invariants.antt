-- One class after another.
use Rattle.std.proofs.Common.{map, take}
use Rattle.slotted_costs.specs.Counts.{UsesMore}
use Rattle.slotted_costs.proofs.users.add_to_each.Given as goal

abbrev pub invariant-loop-id : goal.invariant-loop-id
invariant-loop-id l = UsesMore (map (λ i. i.0) (take l.id-index l.ids)) l.source l.fn.users l.users
