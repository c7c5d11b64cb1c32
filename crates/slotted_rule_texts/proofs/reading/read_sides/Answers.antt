use Rattle.std.proofs.Common.{ap, sym, ◌∙◌, refl}
use Rattle.std.specs.Prelude.{codes, map, Some}
use Rattle.slotted_lists.proofs.Splitting.{parts_around-none, split}
use Rattle.slotted_rule_texts.specs.Told.{told_condition}
use Rattle.slotted_rule_texts.specs.Asked.{sides_by, rule_by}
use Rattle.slotted_rule_texts.specs.Parts.{parts_around}
use Rattle.slotted_rule_texts.proofs.Asking.{sides_are}
use Rattle.slotted_rule_texts.proofs.reading.read_sides.Goals as goal

pub returns-in-Some-clause-ok : goal.returns-in-Some-clause-ok
returns-in-Some-clause-ok c =
    let sides = c.args.sides.now in
    let parts = split (codes " <=> ") sides _ _ c.in-Some.ensures.cases in
    let are = sym (sides_are sides) ∙ ap (λ p. sides_by p (parts_around (codes " => ") sides)) parts in
    let empty = c.new-conditions.ensures.items in
    (λ i. rule_by c.args.name.now (are i) (Some (map told_condition (sym empty i))))

pub returns-in-Some-split_once-clause-ok : goal.returns-in-Some-split_once-clause-ok
returns-in-Some-split_once-clause-ok c =
    let sides = c.args.sides.now in
    let none = parts_around-none (codes " <=> ") sides c.in_default.ensures.cases in
    let parts = split (codes " => ") sides _ _ c.in-Some-split_once.ensures.cases in
    let are = sym (sides_are sides) ∙ (λ i. sides_by (none i) (parts i)) in
    let empty = c.new-conditions.ensures.items in
    (λ i. rule_by c.args.name.now (are i) (Some (map told_condition (sym empty i))))

pub returns-clause-err : goal.returns-clause-err
returns-clause-err c =
    let sides = c.args.sides.now in
    let none = parts_around-none (codes " <=> ") sides c.in_default.ensures.cases in
    let neither = parts_around-none (codes " => ") sides c.in-None.ensures.cases in
    (refl, sym (sides_are sides) ∙ (λ i. sides_by (none i) (neither i)))
