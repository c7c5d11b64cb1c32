use Rattle.std.proofs.Common.{◌≡◌, ap, sym, ◌∙◌}
use Rattle.std.specs.Prelude.{not, is_some}
use Rattle.slotted_lists.proofs.Options.{is_some-option_map}
use Rattle.slotted_patterns.specs.View.{tree_of}
use Rattle.slotted_rule_patterns.proofs.Questions.{twice}
use Rattle.slotted_graph.proofs.KnownPatterns.{asks-unknown}
use Rattle.slotted_graph.proofs.egraph.patterns.has_known_names.Goals as goal

pub returns : goal.returns
returns g c =
    let tree = tree_of g.L.LanguageChildren.form in
    let answered : c.is_none.result ≡ not (is_some c.first_such.result) = sym (twice c.is_none.result) ∙ ap not (sym c.is_none.ensures) in
    answered
    ∙ (ap not (sym (is_some-option_map (λ p. tree p.now) c.first_such.result)) ∙ (ap (λ o. not (is_some o)) c.first_such.ensures ∙ asks-unknown c.args.table.now (tree c.args.pattern.now)))
