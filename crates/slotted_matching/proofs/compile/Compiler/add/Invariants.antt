-- What finds all that is left finds the pattern.
use Rattle.slotted_patterns.specs.View.{tree_of}
use Rattle.slotted_matching.specs.Wanted.{wanted}
use Rattle.slotted_matching.proofs.WantedPatterns.{LeftOver, wanted_size}
use Rattle.slotted_matching.proofs.compile.Compiler.add.Given as goal

abbrev pub invariant-loop-next : goal.invariant-loop-next
invariant-loop-next g l =
    let form = g.L.LanguageChildren.form in
    LeftOver l.skeletons l.initial.self l.self (tree_of form l.pattern) l.fn.from (wanted form l.left.items)

abbrev pub decreases-loop-next : goal.decreases-loop-next
decreases-loop-next g l = wanted_size (wanted g.L.LanguageChildren.form l.left.items)
