use Rattle.std.proofs.Common.{◌≡◌, ◌++◌, length}
use Rattle.slotted_patterns.proofs.grammar.remaining.Given as goal

abbrev pub invariant-loop-token : goal.invariant-loop-token
invariant-loop-token l = l.tokens.items ++ l.rest.items ≡ l.initial.tokens.items ++ l.initial.rest.items

abbrev pub decreases-loop-token : goal.decreases-loop-token
decreases-loop-token l = length l.rest.items
