use Rattle.std.proofs.Common.{◌≡◌}
use Rattle.slotted_theory.specs.FiniteMaps.{value_of}
use Rattle.slotted_theory.specs.Shape.{number_in}
use Rattle.slotted_model.specs.Correspondence.{flipped}
use Rattle.slotted_outlines.specs.Seen.{lefts, rights}
use Rattle.slotted_alike.specs.Frames.{numbers_under}
use Rattle.slotted_alike.proofs.alike.partner.Given as goal

-- the partner is among the pairs that are left
abbrev pub invariant-loop-slot : goal.invariant-loop-slot
invariant-loop-slot l =
    value_of (flipped (numbers_under (lefts l.binders) l.left)) (number_in (rights l.binders) l.name) ≡ value_of (flipped (numbers_under (lefts l.binders) l.slot-iterator)) (number_in (rights l.binders) l.name)
