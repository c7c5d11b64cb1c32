use Rattle.std.proofs.Common.{◌≡◌, ◌<◌, ℕ, Bool, true, false, None, length, sym, ◌∙◌, ap, arith}
use Rattle.std.specs.Prelude.{slice_get, slice_index_or}
use Rattle.std.proofs.lemmas.List.Sums.{count_by_more_no, count_by_more_yes}
use Rattle.std.proofs.lemmas.Option.{get_or_from_slice_get, slice_get-get_or}
use Rattle.slotted_data.specs.Pending.{lives_in}
use Rattle.slotted_data.proofs.pending.pending_count.Goals as goal
use Rattle.slotted_data.proofs.pending.pending_count.Goals.{in-Some+then-is_live, in-Some+else-is_live, in_default}

pub loop-k-preserved : goal.loop-k-preserved
loop-k-preserved g c =
    let xs = c.args.data.now.changed in
    let k = c.loop-k.k in
    let p : ℕ → Bool = lives_in c.args.store.now in
    let inv = c.loop-k.invariant in
    let few = inv.few in
    let within : k < length xs = omega (arith, c.loop-k-test.true, c.changed_count-k-end.ensures) in
    elim c.match-changed_at.branch [
      | in-Some+then-is_live w ↦
          let at : slice_index_or xs k 0 ≡ w.in-Some.class = get_or_from_slice_get xs k w.in-Some.class 0 (sym c.changed_at.ensures ∙ w.in-Some.is) in
          let yes : p (slice_index_or xs k 0) ≡ true = ap p at ∙ (sym w.is_live.ensures ∙ w.if-is_live.true) in
          let more = count_by_more_yes p xs k 0 within yes in
          let is = w.count-is in
          let so_far = inv.count in
          record { count = omega (arith, more, is, so_far); few = omega (arith, is, few) }
      | in-Some+else-is_live w ↦
          let at : slice_index_or xs k 0 ≡ w.in-Some.class = get_or_from_slice_get xs k w.in-Some.class 0 (sym c.changed_at.ensures ∙ w.in-Some.is) in
          let no : p (slice_index_or xs k 0) ≡ false = ap p at ∙ (sym w.is_live.ensures ∙ w.if-is_live.false) in
          let more = count_by_more_no p xs k 0 within no in
          let is = w.count-is in
          let so_far = inv.count in
          record { count = omega (arith, more, is, so_far); few = omega (arith, is, few) }
      | in_default w ↦
          let there = slice_get-get_or xs k 0 within in
          let none : slice_get xs k ≡ None = sym c.changed_at.ensures ∙ w.in_default.is in
          absurd cc
    ]
