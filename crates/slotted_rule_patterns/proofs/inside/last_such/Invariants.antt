-- None of those that were taken is one.
use Rattle.std.proofs.Common.{◌≡◌, map, reverse, length}
use Rattle.std.specs.List.{find}
use Rattle.slotted_patterns.specs.View.{tree_of}
use Rattle.slotted_rule_patterns.proofs.inside.last_such.Given as goal

abbrev pub invariant-loop-next : goal.invariant-loop-next
invariant-loop-next g l =
    let tree = tree_of g.L.LanguageChildren.form in
    let holds = g.Q.Question.holds l.question in
    find holds (reverse (map (λ p. tree p.now) l.patterns.items)) ≡ find holds (reverse (map (λ p. tree p.now) l.fn.patterns.items))

abbrev pub decreases-loop-next : goal.decreases-loop-next
decreases-loop-next g l = length l.patterns.items
