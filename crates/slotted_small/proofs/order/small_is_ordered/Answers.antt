use Rattle.slotted_small.specs.SmallOrder.{small_ordered}
use Rattle.slotted_small.proofs.order.small_is_ordered.Goals as goal

pub returns : goal.returns
returns c = small_ordered
