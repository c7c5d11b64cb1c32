-- The loop has gone through all pairs, and the keys of what it gathered rise.
use Rattle.std.proofs.Common.{◌+◌, drop, refl, subst, sym, ap, ◌∙◌}
use Rattle.slotted_slots.specs.Ascending.{IsAscending}
use Rattle.slotted_slots.specs.Maps.{keys, composed, with_first}
use Rattle.slotted_slots.proofs.Loops.{gathered_all, gathered_one, passed_over}
use Rattle.slotted_slots.proofs.MapLemmas.{IsAscending-composed}
use Rattle.slotted_slots.proofs.slot_map.SlotMap.compose_partial.Goals as goal
use Rattle.slotted_slots.proofs.slot_map.SlotMap.compose_partial.Goals.{in-Some+in_ok-push, in_default}

pub invariant_of-result : goal.invariant_of-result
invariant_of-result c =
    let whole = gathered_all (λ m. composed m c.args.other.now) refl c.loop-pair.pairs.items c.deref-pair-items.result.now c.loop-pair.pair-index c.loop-pair-test.false c.loop-pair.invariant in
    subst (λ m. IsAscending (keys m)) (sym whole) (IsAscending-composed c.deref-pair-items.result.now c.args.other.now (rw c.deref-pair-items.ensures.value c.self.invariant))

pub returns-clause-ok : goal.returns-clause-ok
returns-clause-ok c =
    let whole = gathered_all (λ m. composed m c.args.other.now) refl c.loop-pair.pairs.items c.deref-pair-items.result.now c.loop-pair.pair-index c.loop-pair-test.false c.loop-pair.invariant in
    whole ∙ ap (λ m. composed m c.args.other.now) (c.deref-pair-items.ensures.value ∙ c.self.view_is)

pub loop-pair-preserved : goal.loop-pair-preserved
loop-pair-preserved c =
    let other = c.args.other.now in
    let pairs = c.deref-pair-items.result.now in
    let i = c.loop-pair.pair-index in
    let p = c.pair-item.result in
    let acc = c.loop-pair.pairs.items in
    elim c.match-get.branch [
      | in-Some+in_ok-push w ↦
          gathered_one (λ m. composed m other) acc c.match-get.pairs.items (p.0, w.in-Some.value) pairs i p (ap (λ o. with_first p.0 o (composed (drop (i + 1) pairs) other)) (sym c.get.ensures ∙ w.in-Some.is)) c.loop-pair-test.true c.pair-item.is (ap (λ v. v.items) w.pairs-is ∙ w.in_ok-push.ensures.items)
          ∙ c.loop-pair.invariant
      | in_default w ↦
          passed_over (λ m. composed m other) acc c.match-get.pairs.items pairs i p (ap (λ o. with_first p.0 o (composed (drop (i + 1) pairs) other)) (sym c.get.ensures ∙ w.in_default.is)) c.loop-pair-test.true c.pair-item.is (ap (λ v. v.items) w.pairs-is)
          ∙ c.loop-pair.invariant
    ]
