-- The pairs turned round are the inverse, since no value stands twice.
use Rattle.std.proofs.Common.{refl, fold, subst, sym, ap, ◌∙◌, List, ℕ, ◌+◌, drop}
use Rattle.slotted_slots.specs.Ascending.{IsAscending}
use Rattle.slotted_slots.specs.Maps.{keys, map_of, turned, with_pair, IsInverse}
use Rattle.slotted_slots.proofs.Loops.{folded_all, next_element}
use Rattle.slotted_slots.proofs.MapLaws.{IsInverse-turned}
use Rattle.slotted_slots.proofs.slot_map.SlotMap.inverse.Goals as goal

pub returns-clause-sends_back : goal.returns-clause-sends_back
returns-clause-sends_back c =
    let pairs = c.deref-pair-items.result.now in
    let whole = folded_all (λ (s : List (ℕ × ℕ)) (m : List (ℕ × ℕ)). fold (λ n p. with_pair n p.0 p.1) s (turned m)) (λ _. refl) c.loop-pair.inverse _ pairs c.loop-pair.pair-index c.loop-pair-test.false c.loop-pair.invariant in
    let same = c.deref-pair-items.ensures.value ∙ c.self.view_is in
    let up = subst (λ m. IsAscending (keys m)) c.self.view_is c.self.invariant in
    subst (IsInverse c.args.self.now) (sym (whole ∙ ap (λ m. map_of (turned m)) same)) (IsInverse-turned c.args.self.now up c.requires)

pub loop-pair-preserved : goal.loop-pair-preserved
loop-pair-preserved c =
    let pairs = c.deref-pair-items.result.now in
    let i = c.loop-pair.pair-index in
    let gone_through = λ (s m : List (ℕ × ℕ)). fold (λ n p. with_pair n p.0 p.1) s (turned m) in
    ap (λ s. gone_through s (drop (i + 1) pairs)) c.in_ok-insert.ensures.ok
    ∙ (ap (gone_through c.loop-pair.inverse) (sym (next_element pairs i c.pair-item.result c.loop-pair-test.true c.pair-item.is)) ∙ c.loop-pair.invariant)

pub returns-clause-ok : goal.returns-clause-ok
returns-clause-ok c =
    let whole = folded_all (λ (s : List (ℕ × ℕ)) (m : List (ℕ × ℕ)). fold (λ n p. with_pair n p.0 p.1) s (turned m)) (λ _. refl) c.loop-pair.inverse _ c.deref-pair-items.result.now c.loop-pair.pair-index c.loop-pair-test.false c.loop-pair.invariant in
    whole ∙ ap (λ m. map_of (turned m)) (c.deref-pair-items.ensures.value ∙ c.self.view_is)
