use Rattle.std.proofs.Common.{ap, sym, ◌∙◌}
use Rattle.std.specs.Prelude.{is_some}
use Rattle.slotted_lists.proofs.Options.{is_some-option_map}
use Rattle.slotted_patterns.specs.View.{tree_of}
use Rattle.slotted_rule_patterns.proofs.Questions.{asks-substitution}
use Rattle.slotted_rule_patterns.proofs.pattern.has_substitution.Goals as goal

pub returns : goal.returns
returns g c =
    let tree = tree_of g.L.LanguageChildren.form in
    c.is_some.ensures ∙ (sym (is_some-option_map (λ p. tree p.now) c.first_such.result) ∙ (ap is_some c.first_such.ensures ∙ asks-substitution (tree c.args.pattern.now)))
