use Rattle.std.proofs.Common.{ap, ◌∙◌, sym}
use Rattle.slotted_nodes.specs.Form.{counted}
use Rattle.slotted_symbols.proofs.Steps.{placed_at}
use Rattle.slotted_symbols.proofs.arguments.child_place.Goals as goal

pub returns : goal.returns
returns c = c.place_count.ensures ∙ ap counted (sym (placed_at c.args.arguments.now c.args.k c.in-Some.n c.in-Some.ensures))
