use Rattle.std.proofs.Common.{◌≡◌, take, map}
use Rattle.slotted_slots.specs.Maps.{keys, values}
use Rattle.slotted_matching.specs.Naming.{slot_in}
use Rattle.slotted_matching.proofs.answers.named_id.Given as goal

-- the slots stay, and the numbers so far have their names
abbrev pub invariant-loop-position : goal.invariant-loop-position
invariant-loop-position g l = record {
  keys : keys l.m ≡ keys l.initial.m;
  values : take l.position (values l.m) ≡ map (slot_in l.names) (take l.position l.numbers);
}
