-- The patterns so far, and what is left.
use Rattle.std.proofs.Common.{◌≡◌, ◌++◌, length, map}
use Rattle.slotted_patterns.specs.Shape.{head, heads, heads_in, shape, shapes_of}
use Rattle.slotted_patterns.specs.Subpatterns.{subpatterns, subpatterns_in}
use Rattle.slotted_patterns.specs.Tree.{row_of}
use Rattle.slotted_patterns.specs.View.{tree_of}
use Rattle.slotted_patterns.proofs.pattern.all_inside.Given as goal

abbrev pub invariant-loop-next : goal.invariant-loop-next
invariant-loop-next g l =
    let tree = tree_of g.L.LanguageChildren.form in
    record {
      trees : map (λ p. tree p.now) l.found.items ++ subpatterns_in (row_of (map (λ p. tree p.now) l.left.items)) ≡ subpatterns (tree l.pattern);
      heads : map (λ p. head (shape p.now)) l.found.items ++ heads_in (shapes_of (map (λ p. shape p.now) l.left.items)) ≡ heads (shape l.pattern);
    }

abbrev pub decreases-loop-next : goal.decreases-loop-next
decreases-loop-next g l = length (subpatterns_in (row_of (map (λ p. tree_of g.L.LanguageChildren.form p.now) l.left.items)))
