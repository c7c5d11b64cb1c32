-- The set of the values has them all.
use Rattle.std.proofs.Common.{refl, fold, ap, ◌∙◌, List, ℕ, ◌+◌, drop, sym}
use Rattle.std.specs.Ordering.{nat_cmp}
use Rattle.slotted_slots.specs.Maps.{values, is_among}
use Rattle.slotted_slots.specs.Sets.{insert_key, set_of}
use Rattle.slotted_slots.proofs.Ascending.{is_among-set_of}
use Rattle.slotted_slots.proofs.Loops.{folded_all, next_element}
use Rattle.slotted_slots.proofs.slot_map.SlotMap.values.Goals as goal

pub returns-clause-members : goal.returns-clause-members
returns-clause-members c v =
    let pairs = c.deref-pair-items.result.now in
    let whole = folded_all (λ (s : List ℕ) (m : List (ℕ × ℕ)). fold (insert_key nat_cmp) s (values m)) (λ _. refl) c.loop-pair.set _ pairs c.loop-pair.pair-index c.loop-pair-test.false c.loop-pair.invariant in
    ap (is_among v) whole ∙ (is_among-set_of v (values pairs) ∙ ap (λ m. is_among v (values m)) (c.deref-pair-items.ensures.value ∙ c.self.view_is))

pub loop-pair-preserved : goal.loop-pair-preserved
loop-pair-preserved c =
    let pairs = c.deref-pair-items.result.now in
    let i = c.loop-pair.pair-index in
    ap (λ s. fold (insert_key nat_cmp) s (values (drop (i + 1) pairs))) c.in_ok-insert.ensures.ok
    ∙ (ap (λ m. fold (insert_key nat_cmp) c.loop-pair.set (values m)) (sym (next_element pairs i c.pair-item.result c.loop-pair-test.true c.pair-item.is)) ∙ c.loop-pair.invariant)

pub returns-clause-ok : goal.returns-clause-ok
returns-clause-ok c =
    let whole = folded_all (λ (s : List ℕ) (m : List (ℕ × ℕ)). fold (insert_key nat_cmp) s (values m)) (λ _. refl) c.loop-pair.set _ c.deref-pair-items.result.now c.loop-pair.pair-index c.loop-pair-test.false c.loop-pair.invariant in
    whole ∙ ap (λ m. set_of nat_cmp (values m)) (c.deref-pair-items.ensures.value ∙ c.self.view_is)
