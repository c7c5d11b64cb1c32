-- A value that stands again decides, and one that does not leaves it to the rest.
use Rattle.std.proofs.Common.{◌≡◌, ◌+◌, ◌-◌, Bool, not, length, take, drop, length-drop, sym, ap, arith, ◌∙◌}
use Rattle.std.specs.Prelude.{◌&&◌}
use Rattle.std.proofs.lemmas.List.{take_all}
use Rattle.slotted_slots.specs.Maps.{is_among, values, all_differ}
use Rattle.slotted_slots.proofs.Loops.{next_element}
use Rattle.slotted_slots.proofs.slot_map.SlotMap.is_bijection.Goals as goal

pub loop-i-preserved : goal.loop-i-preserved
loop-i-preserved c =
    let pairs = c.as_slice-pairs.result.now in
    let i = c.loop-i.i in
    let p = c.index-pairs-i.result in
    let rest : take (length pairs - (i + 1)) (drop (i + 1) pairs) ≡ drop (i + 1) pairs = take_all (length pairs - (i + 1)) (drop (i + 1) pairs) (omega (arith, length-drop (i + 1) pairs)) in
    let again = sym (ap (λ m. is_among p.1 (values m)) rest) ∙ (sym c.has_value.ensures ∙ c.if-has_value.false) in
    sym (ap (λ m. all_differ (values m)) (next_element pairs i p c.loop-i-test.true c.index-pairs-i.is) ∙ ap (λ (b : Bool). not b && all_differ (values (drop (i + 1) pairs))) again)
    ∙ c.loop-i.invariant

pub returns-then-has_value : goal.returns-then-has_value
returns-then-has_value c =
    let pairs = c.as_slice-pairs.result.now in
    let i = c.loop-i.i in
    let p = c.index-pairs-i.result in
    let rest : take (length pairs - (i + 1)) (drop (i + 1) pairs) ≡ drop (i + 1) pairs = take_all (length pairs - (i + 1)) (drop (i + 1) pairs) (omega (arith, length-drop (i + 1) pairs)) in
    let again = sym (ap (λ m. is_among p.1 (values m)) rest) ∙ (sym c.has_value.ensures ∙ c.if-has_value.true) in
    sym (ap (λ m. all_differ (values m)) (next_element pairs i p c.loop-i-test.true c.index-pairs-i.is) ∙ ap (λ (b : Bool). not b && all_differ (values (drop (i + 1) pairs))) again)
    ∙ (c.loop-i.invariant ∙ ap (λ m. all_differ (values m)) (c.as_slice-pairs.ensures.value ∙ c.self.view_is))
