use Rattle.std.proofs.Common.{◌≡◌, drop}
use Rattle.std.specs.List.{zip}
use Rattle.slotted_slots.specs.Maps.{values}
use Rattle.slotted_classes.specs.Names.{between, with_pairs}
use Rattle.slotted_classes.proofs.names.map_between.Given as goal

-- the pairs that are left give the whole map
abbrev pub invariant-loop-i : goal.invariant-loop-i
invariant-loop-i l = with_pairs l.map (zip (drop l.i (values l.from)) (drop l.i (values l.to))) ≡ between l.from l.to
