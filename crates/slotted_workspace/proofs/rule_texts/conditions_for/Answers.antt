use Rattle.std.proofs.Common.{List, subst, sym, take}
use Rattle.std.specs.Prelude.{map}
use Rattle.std.proofs.lemmas.List.{map_more}
use Rattle.slotted_languages.proofs.HandedOn.{handed_err}
use Rattle.slotted_rule_texts.specs.Asked.{Condition}
use Rattle.slotted_rule_texts.specs.Told.{told_condition}
use Rattle.slotted_workspace.specs.RuleTexts.{AsksAll, ConditionRefused, asks_none}
use Rattle.slotted_workspace.proofs.RuleTexts.{condition-behind, one-more, read-nothing, read-then}
use Rattle.slotted_workspace.proofs.rule_texts.conditions_for.Goals as goal

pub loop-condition-init : goal.loop-condition-init
loop-condition-init g c = record { asks = asks_none c.args.graph.now.table; read = read-nothing c.args.graph.now }

pub loop-condition-preserved : goal.loop-condition-preserved
loop-condition-preserved g c = record {
  asks =
      let h = c.in_ok-next.ensures.ok in
      let t = c.args.graph.now.table in
      let v = c.condition_for.new.graph.table in
      let i = c.loop-condition.condition-index in
      subst (λ (cs : List Condition). AsksAll t c.in_ok-all.all cs v) (sym (map_more told_condition c.args.asked.now i _ c.loop-condition-test.true))
      (one-more t c.loop-condition.graph.table v (map told_condition (take i c.args.asked.now)) _ c.loop-condition.all c.in_ok-next.next c.in_ok-all.all h.slot c.loop-condition.invariant.asks h.named h.is c.in_ok-all.ensures.ok);
  read = read-then c.args.graph.now c.loop-condition.graph c.condition_for.new.graph c.loop-condition.invariant.read (record { only = c.in_ok-next.ensures.reads; stays = c.in_ok-next.ensures.stays });
}

pub returns-in_err-next-clause-reads : goal.returns-in_err-next-clause-reads
returns-in_err-next-clause-reads g c =
    (read-then c.args.graph.now c.loop-condition.graph c.condition_for.new.graph c.loop-condition.invariant.read (record { only = c.in_err-next.ensures.reads; stays = c.in_err-next.ensures.stays })).only

pub returns-in_err-next-clause-stays : goal.returns-in_err-next-clause-stays
returns-in_err-next-clause-stays g c =
    (read-then c.args.graph.now c.loop-condition.graph c.condition_for.new.graph c.loop-condition.invariant.read (record { only = c.in_err-next.ensures.reads; stays = c.in_err-next.ensures.stays })).stays

pub returns-in_err-next-clause-err : goal.returns-in_err-next-clause-err
returns-in_err-next-clause-err g c =
    let e = c.in_err-next.field-0.0 in
    handed_err c.from_residual.result e c.from_residual.ensures.1 (ConditionRefused c.args.graph.now c.condition_for.new.graph)
    (condition-behind c.args.graph.now c.loop-condition.graph c.condition_for.new.graph c.loop-condition.invariant.read e c.in_err-next.ensures.err)
