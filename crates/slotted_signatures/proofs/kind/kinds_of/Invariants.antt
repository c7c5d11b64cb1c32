use Rattle.std.proofs.Common.{◌≡◌, map, take}
use Rattle.slotted_signatures.specs.Kinds.{number, number_of}
use Rattle.slotted_signatures.proofs.kind.kinds_of.Given as goal

abbrev pub invariant-loop-argument : goal.invariant-loop-argument
invariant-loop-argument l = map number l.kinds.items ≡ map number_of (take l.argument-index l.arguments)
