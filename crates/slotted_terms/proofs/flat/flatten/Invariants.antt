-- The nodes so far, and what is left.
use Rattle.std.proofs.Common.{map}
use Rattle.slotted_terms.specs.Flat.{flat_of}
use Rattle.slotted_terms.proofs.FlatTrees.{Continues}
use Rattle.slotted_terms.proofs.SubtermSizes.{total}
use Rattle.slotted_terms.proofs.flat.flatten.Given as goal

abbrev pub invariant-loop-next : goal.invariant-loop-next
invariant-loop-next g l = Continues l.term (flat_of g.L.LanguageChildren.form l.nodes.items) (map (λ t. t.now) l.left.items)

abbrev pub decreases-loop-next : goal.decreases-loop-next
decreases-loop-next g l = total (map (λ t. t.now) l.left.items)
