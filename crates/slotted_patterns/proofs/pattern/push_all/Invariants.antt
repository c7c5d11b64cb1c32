use Rattle.std.proofs.Common.{◌≡◌, ◌++◌, map, take}
use Rattle.slotted_patterns.specs.Shape.{shape}
use Rattle.slotted_patterns.specs.View.{tree_of}
use Rattle.slotted_patterns.proofs.pattern.push_all.Given as goal

abbrev pub invariant-loop-pattern : goal.invariant-loop-pattern
invariant-loop-pattern g l =
    let tree = tree_of g.L.LanguageChildren.form in
    record {
      trees : map (λ p. tree p.now) l.left.items ≡ map (λ p. tree p.now) l.initial.left.items ++ map tree (take l.pattern-index l.patterns);
      shapes : map (λ p. shape p.now) l.left.items ≡ map (λ p. shape p.now) l.initial.left.items ++ map shape (take l.pattern-index l.patterns);
    }
