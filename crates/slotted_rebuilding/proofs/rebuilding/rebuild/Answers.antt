use Rattle.std.proofs.Common.{◌∙◌}
use Rattle.slotted_classes.specs.Counts.{noted}
use Rattle.slotted_classes.specs.Kept.{size_of, with_counts}
use Rattle.slotted_rebuilding.proofs.Rebuilds.{all-noted}
use Rattle.slotted_rebuilding.proofs.rebuilding.rebuild.Goals as goal

pub returns-clause-ok : goal.returns-clause-ok
returns-clause-ok g c =
    let k = c.args.store.now in
    let r = c.args.nodes.now in
    let l = c.take_turns.new.store in
    let n = c.in_ok-turns.turns in
    all-noted k r l c.take_turns.new.nodes n c.requires.good c.in_ok-turns.ensures.ok c.note.new.self
    (c.note.ensures ∙ (λ i. with_counts l (noted l.counts (c.len-filed.ensures i) (c.size-size.ensures i) (size_of l) n)))
