use Rattle.std.proofs.Common.{ap, sym, ◌∙◌}
use Rattle.std.specs.Prelude.{option_map}
use Rattle.slotted_patterns.specs.View.{tree_of}
use Rattle.slotted_rule_patterns.proofs.Questions.{name-outside, none-outside}
use Rattle.slotted_rule_patterns.proofs.pattern.first_outside.Goals as goal

pub returns-in-Some : goal.returns-in-Some
returns-in-Some g c =
    let tree = tree_of g.L.LanguageChildren.form in
    c.name_of.ensures
    ∙ name-outside (g.K.Known.knows c.args.known.now) (tree c.args.pattern.now) (tree c.in-Some.found.now) (sym c.first_such.ensures ∙ ap (option_map (λ p. tree p.now)) c.in-Some.is)

pub returns-in-None : goal.returns-in-None
returns-in-None g c =
    let tree = tree_of g.L.LanguageChildren.form in
    none-outside (g.K.Known.knows c.args.known.now) (tree c.args.pattern.now) (sym c.first_such.ensures ∙ ap (option_map (λ p. tree p.now)) c.in-None.is)
