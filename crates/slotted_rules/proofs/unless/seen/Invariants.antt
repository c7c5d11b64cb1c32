-- For the patterns that were taken ids of instances wait.
use Rattle.std.proofs.Common.{length, map}
use Rattle.std.specs.Prelude.{All}
use Rattle.slotted_patterns.specs.View.{tree_of}
use Rattle.slotted_proofs.specs.Equations.{to_applied}
use Rattle.slotted_rule_patterns.specs.Values.{values_of}
use Rattle.slotted_graph.specs.ValidIds.{IsValidId}
use Rattle.slotted_rules.proofs.SeenInstances.{Sees}
use Rattle.slotted_rules.proofs.unless.seen.Given as goal

abbrev pub invariant-loop-next : goal.invariant-loop-next
invariant-loop-next g l =
    let tree = tree_of g.L.LanguageChildren.form in
    record {
      sees : Sees l.graph (values_of l.subst) (tree l.pattern) (map (λ p. tree p.now) l.left.items) (map to_applied l.ids.items);
      valid : All (IsValidId l.graph) (map to_applied l.ids.items);
    }

abbrev pub decreases-loop-next : goal.decreases-loop-next
decreases-loop-next g l = length l.left.items
