use Rattle.std.proofs.Common.{inr}
use Rattle.slotted_rules.proofs.modifying.modify_classes.Goals as goal

pub returns-clause-modified : goal.returns-clause-modified
returns-clause-modified g c = (c.in_ok-modify.field-0, c.in_ok-modify.ensures.modified)

pub returns-clause-extends : goal.returns-clause-extends
returns-clause-extends g c = inr c.in_ok-modify.ensures.modified.leaves.extends

pub returns-clause-lowers : goal.returns-clause-lowers
returns-clause-lowers g c = inr c.in_ok-modify.ensures.modified.leaves.lowers
