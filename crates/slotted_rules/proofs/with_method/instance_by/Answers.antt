use Rattle.std.proofs.Common.{◌∙◌, ap, sym, inr}
use Rattle.std.specs.Prelude.{is_some}
use Rattle.std.proofs.lemmas.Bool.{false≢true}
use Rattle.slotted_patterns.specs.View.{tree_of}
use Rattle.slotted_rule_patterns.specs.Values.{values_of}
use Rattle.slotted_rule_patterns.specs.Variables.{has_value}
use Rattle.slotted_rule_patterns.proofs.KnownVariables.{none_outside-known}
use Rattle.slotted_rules.proofs.Carrying.{carries-itself}
use Rattle.slotted_rules.proofs.with_method.instance_by.Goals as goal

pub returns-clause-missing : goal.returns-clause-missing
returns-clause-missing g c some =
    let none = none_outside-known (has_value (values_of c.args.subst.now)) (tree_of g.L.LanguageChildren.form c.args.pattern.now) c.in_ok-check_values.ensures.ok in
    absurd (false≢true (sym (ap is_some none) ∙ some))

pub returns-in_err-check_values-clause-carries : goal.returns-in_err-check_values-clause-carries
returns-in_err-check_values-clause-carries g c = inr (carries-itself g.N.Analysis.codes g.N.Analysis.meaning g.met.N.Analysis.is_merge c.args.graph.now)
