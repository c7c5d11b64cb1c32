use Rattle.std.proofs.Common.{◌≡◌, ◌<◌, ◌+◌, suc, length, drop, ap, arith}
use Rattle.slotted_model.specs.Find.{entry_at}
use Rattle.slotted_model.specs.Rest.{entry_size, size_from}
use Rattle.slotted_classes.specs.Kept.{entries_of, find_at}
use Rattle.slotted_classes.proofs.KeptLists.{entry_at-of, length-entries_of}
use Rattle.slotted_data.specs.Counted.{heights_of}
use Rattle.slotted_data.specs.Pending.{lives_in}
use Rattle.slotted_data.proofs.Sizes.{heights-next, size-next}
use Rattle.slotted_data.proofs.counts.size_with_heights.Goals as goal

pub loop-class-preserved : goal.loop-class-preserved
loop-class-preserved g c =
    let a = g.N.Analysis.meaning c.args.analysis.now in
    let k = c.args.store.now in
    let xs = c.args.data.now.values in
    let i = c.loop-class.class in
    let inv = c.loop-class.invariant in
    let within : i < length xs = omega (arith, c.loop-class-test.true, c.count-class-end.ensures.count) in
    let n = length-entries_of k in
    let one : suc i ≡ i + 1 = omega arith in
    let sizes = size-next i i (entries_of k) (omega (arith, within, n, c.requires.count)) in
    let more_sizes : size_from (suc i) (drop (suc i) (entries_of k)) ≡ size_from (i + 1) (drop (i + 1) (entries_of k)) = λ p. size_from (one p) (drop (one p) (entries_of k)) in
    let heights = heights-next (lives_in k) a i i xs within in
    let here = heights.2 in
    let more_heights : heights_of (lives_in k) a (suc i) (drop (suc i) xs) ≡ heights_of (lives_in k) a (i + 1) (drop (i + 1) xs) =
    λ p. heights_of (lives_in k) a (one p) (drop (one p) xs) in
    let value = c.class_size-size.ensures.value heights.0 heights.1 in
    let entry : entry_size i (entry_at (entries_of k) i) ≡ entry_size i (find_at k i) = ap (entry_size i) (entry_at-of k i) in
    let so_far = inv.sum in
    let few = inv.few in
    let bound = c.class_size-size.ensures.bound in
    record {
      sum = omega (arith, sizes, more_sizes, here, more_heights, value, entry, so_far);
      few = omega (arith, few, bound);
    }
