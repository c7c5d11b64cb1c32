use Rattle.slotted_outlines.specs.Seen.{lefts, rights}
use Rattle.slotted_alike.specs.Frames.{numbers_under}
use Rattle.slotted_alike.proofs.Partners.{Pairing}
use Rattle.slotted_alike.proofs.alike.partners.Given as goal

-- the slots that are left complete the pairs
abbrev pub invariant-loop-slot : goal.invariant-loop-slot
invariant-loop-slot l = Pairing l.right l.map l.slot-iterator (rights l.binders) (numbers_under (lefts l.binders) l.left)
