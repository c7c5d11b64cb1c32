use Rattle.std.proofs.Common.{◌<◌, ◌+◌, ◌∙◌, ℕ, List, arith, length, ap, drop}
use Rattle.std.specs.List.{zip}
use Rattle.slotted_lists.proofs.Maps.{length-values}
use Rattle.slotted_slots.specs.Maps.{values}
use Rattle.slotted_classes.specs.Names.{with_pairs}
use Rattle.slotted_classes.proofs.NameMaps.{with_pairs-step}
use Rattle.slotted_classes.proofs.names.map_between.Goals as goal

pub loop-i-preserved : goal.loop-i-preserved
loop-i-preserved c =
    let from : List ℕ = values c.args.from.now in
    let to : List ℕ = values c.args.to.now in
    let i = c.loop-i.i in
    let k : i < length from = omega (arith, length-values c.args.from.now, c.len-i-end.ensures.len, c.loop-i-test.true) in
    let l : i < length to = omega (arith, length-values c.args.to.now, c.len-i-end.ensures.len, c.loop-i-test.true, c.requires) in
    ap (λ m. with_pairs m (zip (drop (i + 1) from) (drop (i + 1) to))) c.in_ok-insert.ensures.ok
    ∙ (with_pairs-step c.loop-i.map from to i c.value_at.result c.value_at-in-loop-i.result k l c.value_at.ensures c.value_at-in-loop-i.ensures ∙ c.loop-i.invariant)
