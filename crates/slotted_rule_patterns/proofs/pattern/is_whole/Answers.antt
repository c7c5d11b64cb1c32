use Rattle.std.proofs.Common.{◌≡◌, ap, sym, ◌∙◌}
use Rattle.std.specs.Prelude.{not, is_some}
use Rattle.slotted_lists.proofs.Options.{is_some-option_map}
use Rattle.slotted_patterns.specs.View.{tree_of}
use Rattle.slotted_rule_patterns.specs.PatternCode.{pattern_in}
use Rattle.slotted_rule_patterns.proofs.Questions.{asks-miscount, twice}
use Rattle.slotted_rule_patterns.proofs.pattern.is_whole.Goals as goal

pub returns : goal.returns
returns g c =
    let tree = tree_of g.L.LanguageChildren.form in
    let answered : c.is_none.result ≡ not (is_some c.first_such.result) = sym (twice c.is_none.result) ∙ ap not (sym c.is_none.ensures) in
    let same : c.is_none.result ≡ is_some (pattern_in (tree c.args.pattern.now)) =
    answered ∙ (ap not (sym (is_some-option_map (λ p. tree p.now) c.first_such.result)) ∙ (ap (λ o. not (is_some o)) c.first_such.ensures ∙ asks-miscount (tree c.args.pattern.now))) in
    (λ h. sym same ∙ h, λ h. same ∙ h)
