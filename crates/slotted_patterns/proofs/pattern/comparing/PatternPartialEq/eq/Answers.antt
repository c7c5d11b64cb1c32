use Rattle.std.proofs.Common.{sym, ◌∙◌}
use Rattle.slotted_patterns.proofs.EqualTrees.{equal_trees}
use Rattle.slotted_patterns.proofs.pattern.comparing.PatternPartialEq.eq.Goals as goal

pub returns-clause-means : goal.returns-clause-means
returns-clause-means g c =
    let trees = equal_trees g.L.LanguageChildren.form g.L.PartialEq.eq g.met.L.LanguageChildren.same c.args.self.now c.args.other.now in
    (λ h. trees.0 (sym c.equal.ensures ∙ h), λ e. c.equal.ensures ∙ trees.1 e)
