-- The first values are filled.
use Rattle.slotted_rules.proofs.FilledValues.{HasFilled}
use Rattle.slotted_rules.proofs.filling.full_values.Given as goal

abbrev pub invariant-loop-name : goal.invariant-loop-name
invariant-loop-name g l = HasFilled l.fn.graph l.graph l.subst.entries l.name-iterator l.full.entries
