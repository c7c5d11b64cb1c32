use Rattle.std.proofs.Common.{◌≡◌, take}
use Rattle.std.specs.List.{filter}
use Rattle.slotted_data.specs.Pending.{lives_in}
use Rattle.slotted_data.proofs.pending.take_pending.Given as goal

-- the live ones so far
abbrev pub invariant-loop-class : goal.invariant-loop-class
invariant-loop-class g l = l.live.items ≡ filter (lives_in l.store) (take l.class-index l.class-items)
