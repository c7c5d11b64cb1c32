use Rattle.std.proofs.Common.{◌≡◌, take, [], get_or}
use Rattle.slotted_rule_patterns.specs.Values.{values_of}
use Rattle.slotted_matching.proofs.matches.Matches.substitution.Given as goal

-- the entries so far
abbrev pub invariant-loop-variable : goal.invariant-loop-variable
invariant-loop-variable l = values_of l.values ≡ take l.variable (get_or l.self l.answer [])
