-- The nodes so far, and what is left.
use Rattle.std.proofs.Common.{◌≡◌, ◌++◌, length, map}
use Rattle.std.specs.Prelude.{is_some}
use Rattle.slotted_patterns.specs.Tree.{row_of}
use Rattle.slotted_patterns.specs.View.{tree_of}
use Rattle.slotted_terms.specs.AsTerm.{as_term}
use Rattle.slotted_terms.specs.Flat.{flat, flat_of, flat_row}
use Rattle.slotted_terms.proofs.OpenedPatterns.{are_terms}
use Rattle.slotted_terms.proofs.flat.take_apart.Given as goal

abbrev pub invariant-loop-next : goal.invariant-loop-next
invariant-loop-next g l =
    let form = g.L.LanguageChildren.form in
    let left = map (tree_of form) l.left.items in
    let whole = tree_of form l.fn.pattern in
    record {
      nodes : flat_of form l.nodes.items ++ flat_row (row_of left) ≡ flat whole;
      terms : is_some (as_term whole) ≡ are_terms left;
    }

abbrev pub decreases-loop-next : goal.decreases-loop-next
decreases-loop-next g l = length (flat_row (row_of (map (tree_of g.L.LanguageChildren.form) l.left.items)))
