-- One more passes or decides, and the rest does after it.
use Rattle.std.proofs.Common.{◌+◌, Bool, drop, sym, ap, ◌∙◌}
use Rattle.std.specs.Prelude.{◌&&◌, is_some}
use Rattle.std.specs.List.{list_all}
use Rattle.std.proofs.lemmas.List.{drop_all}
use Rattle.slotted_slots.specs.Maps.{value_of, values}
use Rattle.slotted_slots.proofs.Loops.{next_element}
use Rattle.slotted_slots.proofs.slot_map.SlotMap.each_value_is_key.Goals as goal

pub loop-pair-preserved : goal.loop-pair-preserved
loop-pair-preserved c =
    let pairs = c.deref-pair-items.result.now in
    let i = c.loop-pair.pair-index in
    let next = next_element pairs i c.pair-item.result c.loop-pair-test.true c.pair-item.is in
    sym (ap (λ m. list_all (λ v. is_some (value_of c.args.self.now v)) (values m)) next ∙ ap (λ (b : Bool). b && list_all (λ v. is_some (value_of c.args.self.now v)) (values (drop (i + 1) pairs))) (sym c.contains_key.ensures ∙ c.if-not-contains_key.false))
    ∙ c.loop-pair.invariant

pub returns-then-not-contains_key : goal.returns-then-not-contains_key
returns-then-not-contains_key c =
    let pairs = c.deref-pair-items.result.now in
    let i = c.loop-pair.pair-index in
    let next = next_element pairs i c.pair-item.result c.loop-pair-test.true c.pair-item.is in
    sym (ap (λ m. list_all (λ v. is_some (value_of c.args.self.now v)) (values m)) next ∙ ap (λ (b : Bool). b && list_all (λ v. is_some (value_of c.args.self.now v)) (values (drop (i + 1) pairs))) (sym c.contains_key.ensures ∙ c.if-not-contains_key.true))
    ∙ (c.loop-pair.invariant ∙ ap (λ m. list_all (λ v. is_some (value_of c.args.self.now v)) (values m)) (c.deref-pair-items.ensures.value ∙ c.self.view_is))

pub returns : goal.returns
returns c =
    let pairs = c.deref-pair-items.result.now in
    sym (ap (λ m. list_all (λ v. is_some (value_of c.args.self.now v)) (values m)) (drop_all c.loop-pair.pair-index pairs c.loop-pair-test.false))
    ∙ (c.loop-pair.invariant ∙ ap (λ m. list_all (λ v. is_some (value_of c.args.self.now v)) (values m)) (c.deref-pair-items.ensures.value ∙ c.self.view_is))
