use Rattle.std.proofs.Common.{◌∙◌}
use Rattle.std.proofs.lemmas.List.{get_or_default}
use Rattle.slotted_terms.specs.TermPattern.{no_term}
use Rattle.slotted_changes.proofs.marking.child_at.Goals as goal

pub returns : goal.returns
returns g c = c.index-children-k.is ∙ get_or_default c.args.children.now c.args.k c.index-children-k.result no_term c.requires
