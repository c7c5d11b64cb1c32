-- The entry of the class has a pair for each of its canonical slots.
use Rattle.std.proofs.Common.{◌<◌, ◌∙◌, arith, length}
use Rattle.slotted_classes.specs.Kept.{entries_of, nodes_of}
use Rattle.slotted_classes.proofs.KeptLists.{length-nodes_of}
use Rattle.slotted_rebuilding.proofs.WholeEntries.{finds-whole}
use Rattle.slotted_rebuilding.proofs.unions.proving.is_whole.Goals as goal

pub returns : goal.returns
returns g c =
    let k = c.args.store.now in
    let i = c.args.a.now.id.0 in
    let here : i < length (nodes_of k) = omega (arith, c.requires.within, length-nodes_of k) in
    λ y.
    let all = c.is_canonical.ensures.0 y in
    finds-whole (nodes_of k) (entries_of k) c.requires.good.sane.sound.linked i here all.0 (all.1 ∙ c.requires.full)
