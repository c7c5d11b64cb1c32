use Rattle.std.proofs.Common.{◌≡◌, take}
use Rattle.slotted_matching.proofs.answers.paired_names.Given as goal

-- the pairs so far
abbrev pub invariant-loop-pair : goal.invariant-loop-pair
invariant-loop-pair l = l.names.items ≡ take l.pair-index l.pairs
