-- The children from the place k on are the ids that were taken.
use Rattle.std.proofs.Common.{◌≡◌, ◌≤◌, ◌++◌, drop, length, map}
use Rattle.slotted_nodes.specs.Form.{children}
use Rattle.slotted_languages.specs.Beside.{IsBeside}
use Rattle.slotted_operations.specs.Nodes.{child_ids, to_applied}
use Rattle.slotted_operations.proofs.stacks.over_last.Given as goal

abbrev pub invariant-loop-k : goal.invariant-loop-k
invariant-loop-k g l =
    let form = g.L.LanguageChildren.form in
    record {
      beside : IsBeside (form l.fn.node.node) (form l.node);
      within : l.k ≤ length (children (form l.fn.node.node).tree);
      enough : l.k ≤ length l.ids.items;
      taken : map to_applied l.fn.ids.items ≡ map to_applied l.ids.items ++ drop l.k (child_ids (form l.node));
    }

abbrev pub decreases-loop-k : goal.decreases-loop-k
decreases-loop-k g l = l.k
