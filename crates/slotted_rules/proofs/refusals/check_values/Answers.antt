use Rattle.std.proofs.Common.{◌∙◌, ap, sym, inr, refl, Some}
use Rattle.slotted_patterns.specs.View.{tree_of}
use Rattle.slotted_rule_patterns.specs.Values.{values_of}
use Rattle.slotted_rule_patterns.specs.Variables.{has_value}
use Rattle.slotted_rule_patterns.proofs.KnownVariables.{known-none_outside}
use Rattle.slotted_rules.proofs.refusals.check_values.Goals as goal

pub returns-in_ok-from_str-in-Some-clause-err : goal.returns-in_ok-from_str-in-Some-clause-err
returns-in_ok-from_str-in-Some-clause-err g c =
    inr (c.in_ok-from_str-in-Some.field-0, refl, sym c.in-Some.ensures ∙ ap Some (sym c.in_ok-from_str-in-Some.ensures.ok))

pub returns-in-None-clause-ok : goal.returns-in-None-clause-ok
returns-in-None-clause-ok g c =
    known-none_outside (has_value (values_of c.args.subst.now)) (tree_of g.L.LanguageChildren.form c.args.pattern.now) (sym c.in-None.ensures)
