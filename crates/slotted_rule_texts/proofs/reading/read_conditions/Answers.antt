use Rattle.std.proofs.Common.{ap, sym, ◌∙◌, map}
use Rattle.std.specs.Str.Iter.{split_has_more, split_text}
use Rattle.slotted_rule_texts.specs.Told.{told_condition}
use Rattle.slotted_rule_texts.proofs.Asking.{all_read, begins, none_taken, stepped, taken}
use Rattle.slotted_rule_texts.proofs.reading.read_conditions.Goals as goal

pub loop-part-init : goal.loop-part-init
loop-part-init c =
    let made = c.split-part-items.ensures in
    let same = c.into_iter-part-iterator.ensures.into_iter_gives in
    record {
      sign = cc (made.pattern, same);
      asked = begins c.args.text.now _ _ _ (ap (map told_condition) c.new-conditions.ensures.items)
          (ap split_has_more same ∙ made.has_more) (ap split_text same ∙ made.text);
    }

pub loop-part-preserved : goal.loop-part-preserved
loop-part-preserved c =
    let before = c.loop-part.invariant in
    let step = c.in-Some.ensures.steps in
    let asked = stepped c.args.text.now _ _ _ _ _ _ _ before.sign (sym step.0) before.asked step.1.1 in
    record {
      sign = step.1.0 ∙ before.sign;
      asked = taken c.args.text.now _ _ _ _ _ c.in_ok-push-in-Some-read_condition.ensures.items c.in-Some-read_condition.ensures asked;
    }

pub returns-in-None-read_condition-clause-err : goal.returns-in-None-read_condition-clause-err
returns-in-None-read_condition-clause-err c =
    let before = c.loop-part.invariant in
    let step = c.in-Some.ensures.steps in
    let asked = stepped c.args.text.now _ _ _ _ _ _ _ before.sign (sym step.0) before.asked step.1.1 in
    none_taken c.args.text.now _ _ _ c.in-None-read_condition.ensures asked

pub returns-clause-ok : goal.returns-clause-ok
returns-clause-ok c = all_read c.args.text.now _ _ _ (sym c.in-None.ensures.steps.0) c.loop-part.invariant.asked
