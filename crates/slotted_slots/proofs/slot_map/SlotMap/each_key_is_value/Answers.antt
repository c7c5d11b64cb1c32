-- One more passes or decides, and the rest does after it.
use Rattle.std.proofs.Common.{◌+◌, Bool, drop, sym, ap, ◌∙◌}
use Rattle.std.specs.Prelude.{◌&&◌}
use Rattle.std.specs.List.{list_all}
use Rattle.std.proofs.lemmas.List.{drop_all}
use Rattle.slotted_slots.specs.Maps.{is_among, keys, values}
use Rattle.slotted_slots.proofs.Loops.{next_element}
use Rattle.slotted_slots.proofs.slot_map.SlotMap.each_key_is_value.Goals as goal

pub loop-pair-preserved : goal.loop-pair-preserved
loop-pair-preserved c =
    let pairs = c.as_slice-pairs.result.now in
    let i = c.loop-pair.pair-index in
    let next = next_element pairs i c.pair-item.result c.loop-pair-test.true c.pair-item.is in
    sym (ap (λ m. list_all (λ k. is_among k (values c.as_slice-pairs.result.now)) (keys m)) next ∙ ap (λ (b : Bool). b && list_all (λ k. is_among k (values c.as_slice-pairs.result.now)) (keys (drop (i + 1) pairs))) (sym c.has_value.ensures ∙ c.if-not-has_value.false))
    ∙ c.loop-pair.invariant

pub returns-then-not-has_value : goal.returns-then-not-has_value
returns-then-not-has_value c =
    let pairs = c.as_slice-pairs.result.now in
    let i = c.loop-pair.pair-index in
    let next = next_element pairs i c.pair-item.result c.loop-pair-test.true c.pair-item.is in
    sym (ap (λ m. list_all (λ k. is_among k (values c.as_slice-pairs.result.now)) (keys m)) next ∙ ap (λ (b : Bool). b && list_all (λ k. is_among k (values c.as_slice-pairs.result.now)) (keys (drop (i + 1) pairs))) (sym c.has_value.ensures ∙ c.if-not-has_value.true))
    ∙ (c.loop-pair.invariant ∙ ap (λ m. list_all (λ k. is_among k (values m)) (keys m)) (c.as_slice-pairs.ensures.value ∙ c.self.view_is))

pub returns : goal.returns
returns c =
    let pairs = c.as_slice-pairs.result.now in
    sym (ap (λ m. list_all (λ k. is_among k (values c.as_slice-pairs.result.now)) (keys m)) (drop_all c.loop-pair.pair-index pairs c.loop-pair-test.false))
    ∙ (c.loop-pair.invariant ∙ ap (λ m. list_all (λ k. is_among k (values m)) (keys m)) (c.as_slice-pairs.ensures.value ∙ c.self.view_is))
