use Rattle.std.proofs.Common.{map, take}
use Rattle.slotted_slots.specs.declared.types.Id.{Id}
use Rattle.slotted_costs.proofs.UserLists.{uses-next, uses-read, uses-none}
use Rattle.slotted_costs.proofs.users.add_to_each.Goals as goal

pub loop-id-init : goal.loop-id-init
loop-id-init c = uses-none c.args.source c.args.users.now

pub loop-id-preserved : goal.loop-id-preserved
loop-id-preserved c =
    uses-read (λ (i : Id). i.0) c.args.ids.now c.loop-id.id-index (record { 0 = 0 }) c.args.source c.args.users.now c.add_known.new.users c.loop-id-test.true
    (uses-next (map (λ i. i.0) (take c.loop-id.id-index c.args.ids.now)) c.args.source _ c.args.users.now c.loop-id.users c.add_known.new.users c.loop-id.invariant c.in_ok-add_known.ensures.ok)
