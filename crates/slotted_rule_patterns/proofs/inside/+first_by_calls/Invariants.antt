-- No child so far has one.
use Rattle.std.proofs.Common.{◌≡◌, map}
use Rattle.slotted_patterns.specs.Tree.{row_of}
use Rattle.slotted_patterns.specs.View.{tree_of}
use Rattle.slotted_rule_patterns.proofs.FirstInside.{row_such, row_from}
use Rattle.slotted_rule_patterns.proofs.inside.+first_by_calls.Given as goal

abbrev pub invariant-loop-child : goal.invariant-loop-child
invariant-loop-child g l =
    let form = g.L.LanguageChildren.form in
    let holds = g.Q.Question.holds l.question in
    row_such holds (row_of (map (tree_of form) l.child-items)) ≡ row_from form holds l.child-items l.child-index
