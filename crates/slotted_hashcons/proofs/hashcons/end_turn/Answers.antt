use Rattle.slotted_hashcons.proofs.Together.{popped}
use Rattle.slotted_hashcons.proofs.hashcons.end_turn.Goals as goal

pub returns : goal.returns
returns c = popped c.pop.result c.args.waiting.now c.pop.new.self c.args.class c.pop.ensures.some c.pop.ensures.none c.requires
