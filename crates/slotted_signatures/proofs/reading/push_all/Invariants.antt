use Rattle.std.proofs.Common.{◌≡◌, ◌++◌, map}
use Rattle.slotted_patterns.specs.View.{tree_of}
use Rattle.slotted_signatures.proofs.reading.push_all.Given as goal

abbrev pub invariant-loop-pattern : goal.invariant-loop-pattern
invariant-loop-pattern g l =
    let tree = tree_of g.L.LanguageChildren.form in
    map (λ p. tree p.now) l.left.items ≡ map (λ p. tree p.now) l.initial.left.items ++ map (λ p. tree p.now) l.yielded
