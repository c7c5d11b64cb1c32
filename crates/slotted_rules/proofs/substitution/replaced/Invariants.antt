-- The stack makes what is to come of the body.
use Rattle.slotted_proofs.specs.Equations.{to_applied}
use Rattle.slotted_rules.specs.Carried.{CarriesAlong}
use Rattle.slotted_rules.specs.Frames.{IsStackFor, work_left}
use Rattle.slotted_rules.proofs.substitution.replaced.Given as goal

abbrev pub decreases-loop-stack : goal.decreases-loop-stack
decreases-loop-stack g l = work_left g.L.LanguageChildren.form l.fn.graph.image.canonical l.stack

abbrev pub invariant-loop-stack : goal.invariant-loop-stack
invariant-loop-stack g l =
    record { stack : IsStackFor g.L.LanguageChildren.form l.fn.graph l.graph (to_applied l.x) (to_applied l.t) (to_applied l.b) l.stack; carries : CarriesAlong g.N.Analysis.codes g.N.Analysis.meaning l.fn.graph l.graph }
