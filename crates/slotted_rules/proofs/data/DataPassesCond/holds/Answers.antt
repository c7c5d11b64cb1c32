use Rattle.std.proofs.Common.{◌≡◌, ◌∙◌, ap, subst, sym}
use Rattle.std.proofs.lemmas.List.Elements.{Contains-get_or}
use Rattle.std.specs.Prelude.{Some, is_some, slice_index_or, string_bytes}
use Rattle.slotted_model.specs.Applied.{Applied}
use Rattle.slotted_model_rules.specs.Conditions.{Values}
use Rattle.slotted_model_rules.specs.Matcher.{value_at}
use Rattle.slotted_model_rules.specs.Rules.{id_or_none}
use Rattle.slotted_proofs.specs.Equations.{to_applied}
use Rattle.slotted_graph.specs.ValidIds.{IsValidId}
use Rattle.slotted_rule_patterns.specs.Values.{values_of}
use Rattle.slotted_rule_patterns.proofs.KnownVariables.{entry-valued}
use Rattle.slotted_rules.proofs.data.DataPassesCond.holds.Goals as goal

pub analysis_data-requires : goal.analysis_data-requires
analysis_data-requires g c =
    let s : Values = values_of c.args.s.now in
    let v = string_bytes c.args.self.now.variable in
    let a : Applied = to_applied c.in-Some.a.now in
    let h = c.args.graph.now in
    let found : value_at s v ≡ Some a = sym (c.in-Some.ensures ∙ ap (value_at s) c.as_str.ensures.value) in
    let valid = entry-valued (IsValidId h) s v (λ k d l. c.requires.valid (slice_index_or s k d) (Contains-get_or s k d l)) (ap is_some found) in
    (c.requires.well, (subst (IsValidId h) (ap id_or_none found) valid).in_range)

pub returns-in-Some-clause-ok : goal.returns-in-Some-clause-ok
returns-in-Some-clause-ok g c =
    let s : Values = values_of c.args.s.now in
    record {
      value = to_applied c.in-Some.a.now;
      valued = sym (c.in-Some.ensures ∙ ap (value_at s) c.as_str.ensures.value);
      datum = c.analysis_data.result.now;
      has = c.analysis_data.ensures.value;
      is = c.test.ensures;
    }
