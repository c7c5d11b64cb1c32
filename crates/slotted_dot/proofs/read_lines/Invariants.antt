-- the rules can be handed to runs over the graph
use Rattle.slotted_lines.specs.States.{AreSearchable, state_of}
use Rattle.slotted_dot.proofs.read_lines.Given as goal

abbrev pub invariant-loop : goal.invariant-loop
invariant-loop g l = AreSearchable g.L.LanguageChildren.form (state_of l.session)
