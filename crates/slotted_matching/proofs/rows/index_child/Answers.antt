use Rattle.std.proofs.Common.{◌∙◌, refl, sym}
use Rattle.slotted_lists.proofs.Maps.{values-with_values}
use Rattle.slotted_matching.specs.KeyRows.{slot_number}
use Rattle.slotted_matching.proofs.rows.index_child.Goals as goal

pub returns-clause-ok : goal.returns-clause-ok
returns-clause-ok c = record { class = refl; numbers = c.in_ok-numbers.ensures.ok ∙ sym (values-with_values slot_number c.args.child.now.m) }
