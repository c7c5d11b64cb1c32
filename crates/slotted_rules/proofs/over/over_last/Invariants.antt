-- The children from the place k on are the ids that were taken.
use Rattle.std.proofs.Common.{map}
use Rattle.slotted_proofs.specs.Equations.{to_applied}
use Rattle.slotted_rules.proofs.LastIds.{SetsLast}
use Rattle.slotted_rules.proofs.over.over_last.Given as goal

abbrev pub invariant-loop-k : goal.invariant-loop-k
invariant-loop-k g l =
    let form = g.L.LanguageChildren.form in
    SetsLast (form l.fn.node) (form l.over) (map to_applied l.ids.items) (map to_applied l.fn.ids.items) l.k

abbrev pub decreases-loop-k : goal.decreases-loop-k
decreases-loop-k g l = l.k
