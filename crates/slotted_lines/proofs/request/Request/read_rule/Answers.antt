use Rattle.std.proofs.Common.{ap, sym, ◌∙◌}
use Rattle.std.specs.Prelude.{codes}
use Rattle.slotted_lists.proofs.Splitting.{parts_around-none, split}
use Rattle.slotted_lines.specs.Requests.{rule_by, rule_of_parts}
use Rattle.slotted_lines.proofs.Lines.{rule_is}
use Rattle.slotted_lines.proofs.request.Request.read_rule.Goals as goal

pub returns-in_default : goal.returns-in_default
returns-in_default c =
    let text = c.args.text.now in
    sym (ap rule_of_parts (parts_around-none (codes ": ") text c.in_default.ensures.cases)) ∙ rule_is text

pub returns-in-Some-split_once : goal.returns-in-Some-split_once
returns-in-Some-split_once c =
    let text = c.args.text.now in
    let parts = split (codes ": ") text _ _ c.in-Some.ensures.cases in
    let sides = split (codes " => ") c.in-Some.sides.now _ _ c.in-Some-split_once.ensures.cases in
    sym (ap rule_of_parts parts ∙ ap (rule_by c.in-Some.name.now) sides) ∙ rule_is text

pub returns-in-None : goal.returns-in-None
returns-in-None c =
    let text = c.args.text.now in
    let parts = split (codes ": ") text _ _ c.in-Some.ensures.cases in
    let none = parts_around-none (codes " => ") c.in-Some.sides.now c.in-None.ensures.cases in
    sym (ap rule_of_parts parts ∙ ap (rule_by c.in-Some.name.now) none) ∙ rule_is text
