use Rattle.std.proofs.Common.{length}
use Rattle.std.specs.Str.{chars}
use Rattle.slotted_patterns.proofs.TextRuns.{HasRun}
use Rattle.slotted_patterns.proofs.tokens.split_run.Given as goal

abbrev pub invariant-loop-first : goal.invariant-loop-first
invariant-loop-first l = HasRun l.text l.left

abbrev pub decreases-loop-first : goal.decreases-loop-first
decreases-loop-first l = length (chars l.left)
