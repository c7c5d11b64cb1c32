-- the rules so far are valid
use Rattle.std.proofs.Common.{All, take}
use Rattle.slotted_rules.proofs.applying.are_valid.Given as goal

abbrev pub invariant-loop-rule : goal.invariant-loop-rule
invariant-loop-rule g l = All (λ r. g.R.RewriteT.valid r l.graph) (take l.rule-index l.rules)
