-- the answers so far
use Rattle.std.proofs.Common.{◌≡◌, map, take}
use Rattle.slotted_rule_patterns.specs.Values.{values_of}
use Rattle.slotted_rules.proofs.searching.substitutions.Given as goal

abbrev pub invariant-loop-answer : goal.invariant-loop-answer
invariant-loop-answer l = map values_of l.all.items ≡ take l.answer l.found
