-- What differs stands below the steps so far.
use Rattle.slotted_theory.specs.Term.{term_size}
use Rattle.slotted_changes.specs.Steps.{levels_of}
use Rattle.slotted_changes.proofs.Places.{Way}
use Rattle.slotted_changes.proofs.marking.changed_place.Given as goal

abbrev pub invariant-loop-steps : goal.invariant-loop-steps
invariant-loop-steps g l = Way l.one l.two l.from l.to (levels_of g.L.LanguageChildren.form l.steps.items)

abbrev pub decreases-loop-steps : goal.decreases-loop-steps
decreases-loop-steps g l = term_size l.from
