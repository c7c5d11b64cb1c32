-- The children from the place k on were added.
use Rattle.std.proofs.Common.{◌≡◌, ◌≤◌, ◌++◌, drop, length, map, reverse}
use Rattle.slotted_nodes.specs.Form.{children}
use Rattle.slotted_operations.specs.Nodes.{child_ids, to_applied}
use Rattle.slotted_operations.proofs.stacks.push_children.Given as goal

abbrev pub invariant-loop-k : goal.invariant-loop-k
invariant-loop-k g l =
    let f = g.L.LanguageChildren.form l.node in
    record {
      within : l.k ≤ length (children f.tree);
      added : map to_applied l.left.items ≡ map to_applied l.initial.left.items ++ reverse (drop l.k (child_ids f));
    }

abbrev pub decreases-loop-k : goal.decreases-loop-k
decreases-loop-k g l = l.k
