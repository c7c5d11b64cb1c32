use Rattle.std.proofs.Common.{sym, subst}
use Rattle.slotted_terms.specs.TermPattern.{IsPatternOf}
use Rattle.slotted_terms.proofs.TermPatterns.{pattern_whole}
use Rattle.slotted_terms.proofs.patterns.re_to_pattern.Goals as goal

pub assemble-requires : goal.assemble-requires
assemble-requires g c =
    let tree = c.in_ok-nodes.ensures.ok in
    (tree.0, tree.1.ground, tree.2)

pub returns-clause-ok : goal.returns-clause-ok
returns-clause-ok g c =
    let tree = c.in_ok-nodes.ensures.ok in
    subst (λ p. IsPatternOf p c.args.term.now) (sym (c.in_ok-pattern.ensures.ok tree.0 tree.1.ground tree.2)) tree.1

pub returns-clause-back : goal.returns-clause-back
returns-clause-back g c = pattern_whole _ _ (returns-clause-ok g c)
