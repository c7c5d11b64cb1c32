use Rattle.std.proofs.Common.{inl, inr}
use Rattle.slotted_patterns.specs.View.{tree_of}
use Rattle.slotted_rule_patterns.specs.Values.{values_of}
use Rattle.slotted_rule_patterns.specs.Variables.{has_value}
use Rattle.slotted_rule_patterns.proofs.KnownVariables.{none_outside-known}
use Rattle.slotted_rules.proofs.Answering.{if-err-mapped}
use Rattle.slotted_rules.proofs.uniting.check_both.Goals as goal

pub returns-clause-err : goal.returns-clause-err
returns-clause-err g c =
    let none = none_outside-known (has_value (values_of c.args.subst.now)) (tree_of g.L.LanguageChildren.form c.args.a.now) c.in_ok-check_values.ensures.ok in
    if-err-mapped c.check_values-2.result c.check_values-2.ensures.err (λ e k. elim k [ inl o ↦ inl (inl o) | inr m ↦ inr (inr (none, m)) ])
