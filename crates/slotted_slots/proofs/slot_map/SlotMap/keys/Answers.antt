-- The keys rise, so they are their set.
use Rattle.std.proofs.Common.{refl, fold, ap, ◌∙◌, List, ℕ, ◌+◌, drop, sym}
use Rattle.std.specs.Ordering.{nat_cmp}
use Rattle.slotted_slots.specs.Maps.{keys}
use Rattle.slotted_slots.specs.Sets.{insert_key}
use Rattle.slotted_slots.proofs.Ascending.{set_of-ascending}
use Rattle.slotted_slots.proofs.Loops.{folded_all, next_element}
use Rattle.slotted_slots.proofs.slot_map.SlotMap.keys.Goals as goal

pub returns-clause-ok : goal.returns-clause-ok
returns-clause-ok c =
    let whole = folded_all (λ (s : List ℕ) (m : List (ℕ × ℕ)). fold (insert_key nat_cmp) s (keys m)) (λ _. refl) c.loop-pair.set _ c.deref-pair-items.result.now c.loop-pair.pair-index c.loop-pair-test.false c.loop-pair.invariant in
    whole ∙ (set_of-ascending _ (rw c.deref-pair-items.ensures.value c.self.invariant) ∙ ap keys (c.deref-pair-items.ensures.value ∙ c.self.view_is))

pub loop-pair-preserved : goal.loop-pair-preserved
loop-pair-preserved c =
    let pairs = c.deref-pair-items.result.now in
    let i = c.loop-pair.pair-index in
    ap (λ s. fold (insert_key nat_cmp) s (keys (drop (i + 1) pairs))) c.in_ok-insert.ensures.ok
    ∙ (ap (λ m. fold (insert_key nat_cmp) c.loop-pair.set (keys m)) (sym (next_element pairs i c.pair-item.result c.loop-pair-test.true c.pair-item.is)) ∙ c.loop-pair.invariant)
