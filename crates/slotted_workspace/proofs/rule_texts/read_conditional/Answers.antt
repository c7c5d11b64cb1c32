use Rattle.std.proofs.Common.{inr}
use Rattle.std.specs.Prelude.{map}
use Rattle.std.proofs.lemmas.Result.{IfErr-weaker}
use Rattle.slotted_graph.proofs.Extending.{extends-read}
use Rattle.slotted_rule_texts.specs.Told.{told_condition}
use Rattle.slotted_workspace.specs.Asked.{RuleRefused}
use Rattle.slotted_workspace.specs.RuleTexts.{ConditionalRefused}
use Rattle.slotted_workspace.specs.RuleTexts as texts
use Rattle.slotted_workspace.proofs.RuleTexts.{extends-behind}
use Rattle.slotted_workspace.proofs.rule_texts.read_conditional.Goals as goal

pub returns-in_err-condition-clause-extends : goal.returns-in_err-condition-clause-extends
returns-in_err-condition-clause-extends g c = inr (extends-read c.args.graph.now c.conditions_for.new.graph c.in_err-condition.ensures.reads)

pub returns-clause-err : goal.returns-clause-err
returns-clause-err g c =
    let form = g.L.LanguageChildren.form in
    let read = g.L.LanguageChildren.read in
    let k = c.conditions_for.new.graph in
    let h = c.read_rule.new.graph in
    let condition = c.in_ok-condition.condition in
    let asked = c.in_ok-condition.ensures in
    IfErr-weaker c.read_rule.result (RuleRefused form read k h c.args.left.now c.args.right.now condition) (ConditionalRefused form read c.args.graph.now h c.args.left.now c.args.right.now (map told_condition c.args.asked.now))
    (λ e r. texts.rule_refused k condition asked.ok asked.reads r) c.read_rule.ensures.err

pub returns-clause-extends : goal.returns-clause-extends
returns-clause-extends g c =
    extends-behind c.args.graph.now c.conditions_for.new.graph c.read_rule.new.graph (record { only = c.in_ok-condition.ensures.reads; stays = c.in_ok-condition.ensures.stays }) c.read_rule.ensures.extends
