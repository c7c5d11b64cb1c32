use Rattle.std.proofs.Common.{[], ◌∷◌, ◌∙◌, ap, subst, sym}
use Rattle.std.specs.Prelude.{string_bytes}
use Rattle.slotted_patterns.specs.View.{tree_of}
use Rattle.slotted_rule_patterns.specs.Variables.{has_variable}
use Rattle.slotted_rules.specs.Asking.{IsMissing}
use Rattle.slotted_rules.specs.Reading.{slot_name, variable_name}
use Rattle.slotted_rules.proofs.ReadNames.{unread-here, unread-later}
use Rattle.slotted_rules.proofs.reading.SlotFreeInReadsNames.test_names.Goals as goal

pub returns-then-not-has_variable-clause-err : goal.returns-then-not-has_variable-clause-err
returns-then-not-has_variable-clause-err g c =
    let t = tree_of g.L.LanguageChildren.form c.args.left.now in
    let v = string_bytes c.args.self.now.variable in
    let lacks = sym (ap (has_variable t) c.as_str.ensures.value) ∙ (sym c.has_variable.ensures ∙ c.if-not-has_variable.true) in
    unread-here t (variable_name v) (slot_name c.args.self.now.slot ∷ []) c.missing.result lacks
    (subst (λ name. IsMissing name c.missing.result) c.as_str-then-not-has_variable.ensures.value c.missing.ensures)

pub returns-then-not-has_slot_in-clause-err : goal.returns-then-not-has_slot_in-clause-err
returns-then-not-has_slot_in-clause-err g c =
    let t = tree_of g.L.LanguageChildren.form c.args.left.now in
    let v = string_bytes c.args.self.now.variable in
    let x = c.args.self.now.slot in
    let e = c.missing-then-not-has_slot_in.result in
    let has = sym (ap (has_variable t) c.as_str.ensures.value) ∙ (sym c.has_variable.ensures ∙ c.if-not-has_variable.false) in
    unread-later t (variable_name v) (slot_name x ∷ []) e has
    (unread-here t (slot_name x) [] e (sym c.has_slot_in.ensures ∙ c.if-not-has_slot_in.true) c.missing-then-not-has_slot_in.ensures)
