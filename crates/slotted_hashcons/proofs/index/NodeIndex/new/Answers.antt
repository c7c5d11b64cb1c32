use Rattle.slotted_hashcons.specs.Filed.{joined}
use Rattle.slotted_hashcons.proofs.index.NodeIndex.new.Goals as goal

pub returns : goal.returns
returns g c = λ i. joined (c.new.ensures i) (c.new-2.ensures i)
