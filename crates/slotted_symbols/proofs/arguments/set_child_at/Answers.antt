use Rattle.slotted_symbols.proofs.Steps.{written_at}
use Rattle.slotted_symbols.proofs.arguments.set_child_at.Goals as goal

pub returns : goal.returns
returns c = written_at c.args.arguments.now c.args.k c.in-Some.n c.args.a c.in-Some.ensures
