use Rattle.slotted_hashcons.proofs.Together.{fit-left}
use Rattle.slotted_hashcons.proofs.hashcons.Hashcons.leave.Goals as goal

pub invariant_of-self : goal.invariant_of-self
invariant_of-self g c =
    fit-left c.self.inside.nodes c.self.inside.usages c.self.inside.waiting c.self.invariant c.args.class c.end_turn.new.waiting c.end_turn.ensures.0 c.end_turn.ensures.1
