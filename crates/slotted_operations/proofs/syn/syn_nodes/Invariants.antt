-- The ids that were opened, and those that are left.
use Rattle.std.proofs.Common.{map}
use Rattle.slotted_proofs.specs.Equations.{to_applied}
use Rattle.slotted_classes.specs.Kept.{nodes_of}
use Rattle.slotted_terms.specs.Flat.{flat_of}
use Rattle.slotted_operations.proofs.Ids.TermsOfIds.{IsOpening}
use Rattle.slotted_operations.proofs.Ids.NodeCounts.{ids_nodes}
use Rattle.slotted_operations.proofs.syn.syn_nodes.Given as goal

abbrev pub invariant-loop-next : goal.invariant-loop-next
invariant-loop-next g l =
    record { opening : IsOpening l.fn.table l.store l.a l.table (flat_of g.L.LanguageChildren.form l.nodes.items) (map to_applied l.left.items) }

abbrev pub decreases-loop-next : goal.decreases-loop-next
decreases-loop-next g l = ids_nodes (nodes_of l.store) (map to_applied l.left.items)
