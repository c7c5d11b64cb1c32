use Rattle.std.proofs.Common.{List, inl, subst}
use Rattle.std.specs.Prelude.{map}
use Rattle.std.proofs.lemmas.Result.{IfErr-weaker}
use Rattle.slotted_rule_texts.specs.Told.{told_condition}
use Rattle.slotted_rule_texts.specs.declared.rule_text.SlotCondition.{SlotCondition}
use Rattle.slotted_workspace.specs.RuleTexts.{ConditionalRefused}
use Rattle.slotted_workspace.proofs.rule_texts.read_back.Goals as goal

pub returns-clause-err : goal.returns-clause-err
returns-clause-err g c =
    let form = g.L.LanguageChildren.form in
    let read = g.L.LanguageChildren.read in
    let h = c.read_conditional.new.graph in
    let a = c.args.asked.now in
    IfErr-weaker c.read_conditional.result (ConditionalRefused form read c.args.graph.now h a.right.now a.left.now (map told_condition c.deref.result.now)) _
    (λ e x. inl (subst (λ (cs : List SlotCondition). ConditionalRefused form read c.args.graph.now h a.right.now a.left.now (map told_condition cs) e) c.deref.ensures.value x))
    c.read_conditional.ensures.err
