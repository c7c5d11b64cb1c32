use Rattle.std.proofs.Common.{◌≡◌, ◌<◌, ◌≤◌, ◌+◌, ◌*◌, ◌-◌, ◌^◌, false, suc, sym, ◌∙◌, ap, subst, arith, rules}
use Rattle.std.specs.Prelude.{min}
use Rattle.slotted_classes.specs.Counts.{most_bound}
use Rattle.slotted_classes.specs.Kept.{size_of}
use Rattle.slotted_classes.specs.declared.counts.RebuildCount.{RebuildCount}
use Rattle.slotted_data.specs.Counted.{heights_of}
use Rattle.slotted_data.specs.Pending.{lives_in}
use Rattle.slotted_data.proofs.Told.{heights-low, last-few, told-still, told-within}
use Rattle.slotted_data.proofs.counts.last_rebuild.Goals as goal

pub returns-then-not-is_tall-clause-told : goal.returns-then-not-is_tall-clause-told
returns-then-not-is_tall-clause-told g c =
    let a = g.N.Analysis.meaning c.args.analysis.now in
    let k = c.args.store.now in
    let d = c.args.data.now in
    let counts = c.requires.counts in
    let n = counts.count in
    let short : d.tall ≡ false = search rules in
    let heights = heights-low (lives_in k) a 0 d.values (λ j h x. counts.low short j (omega (arith, h, n)) x) in
    let top : c.last_rebuild.result.size_before < 2 ^ 128 = search rules in
    let is : c.last_rebuild.result.size_before ≡ k.counts.size_before = ap (λ (r : RebuildCount). r.size_before) c.last_rebuild.ensures in
    let within : k.counts.size_before ≤ most_bound = omega (arith, top, is) in
    c.last_rebuild.ensures ∙ told-still k.counts d.counts (size_of k) (heights_of (lives_in k) a 0 d.values) (counts.still short) heights counts.rebuilds within

pub returns-clause-within : goal.returns-clause-within
returns-clause-within g c =
    let k = c.args.store.now in
    let d = c.args.data.now in
    let counts = c.requires.counts in
    let last : RebuildCount = c.last_count_of-last.result in
    let few : last.turns ≤ last.nodes * suc (last.size_before - last.size_after) =
    subst (λ (r : RebuildCount). r.turns ≤ r.nodes * suc (r.size_before - r.size_after)) (sym c.last_count_of-last.ensures.last) (last-few k.counts d.counts (size_of k) counts.rebuilds counts.turns) in
    told-within last.turns last.nodes (last.size_before - last.size_after) c.size_with_heights-size.result c.saturating_add.result few c.last_count_of-last.ensures.fits c.size_with_heights-size.ensures.bound (c.saturating_add.ensures ∙ ap (λ f. min (c.size_with_heights-size.result + f) most_bound) c.saturating_sub-fall.ensures)
