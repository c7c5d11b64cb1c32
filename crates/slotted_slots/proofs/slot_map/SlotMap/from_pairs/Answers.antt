-- The pairs went in one after another.
use Rattle.std.proofs.Common.{◌+◌, drop, refl, fold, sym, ap, ◌∙◌, List, ℕ}
use Rattle.slotted_slots.specs.Maps.{with_pair}
use Rattle.slotted_slots.proofs.Loops.{folded_all, next_element}
use Rattle.slotted_slots.proofs.slot_map.SlotMap.from_pairs.Goals as goal

pub loop-pair-preserved : goal.loop-pair-preserved
loop-pair-preserved c =
    let pairs = c.args.pairs.now in
    let i = c.loop-pair.pair-index in
    let gone_through = λ (s m : List (ℕ × ℕ)). fold (λ n p. with_pair n p.0 p.1) s m in
    ap (λ s. gone_through s (drop (i + 1) pairs)) c.in_ok-insert.ensures.ok
    ∙ (ap (gone_through c.loop-pair.map) (sym (next_element pairs i c.pair-item.result c.loop-pair-test.true c.pair-item.is)) ∙ c.loop-pair.invariant)

pub returns-clause-ok : goal.returns-clause-ok
returns-clause-ok c =
    folded_all (λ (s : List (ℕ × ℕ)) (m : List (ℕ × ℕ)). fold (λ n p. with_pair n p.0 p.1) s m) (λ _. refl) c.loop-pair.map _ c.args.pairs.now c.loop-pair.pair-index c.loop-pair-test.false c.loop-pair.invariant
