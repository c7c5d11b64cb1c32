use Rattle.std.proofs.Common.{◌≡◌, length}
use Rattle.std.specs.Str.{chars, IsUtf8}
use Rattle.slotted_patterns.specs.Tokens.{after_white_space}
use Rattle.slotted_patterns.proofs.tokens.skip_white_space.Given as goal

abbrev pub invariant-loop-first : goal.invariant-loop-first
invariant-loop-first l = record {
  same : after_white_space (chars l.left) ≡ after_white_space (chars l.text);
  utf8 : IsUtf8 l.left;
}

abbrev pub decreases-loop-first : goal.decreases-loop-first
decreases-loop-first l = length (chars l.left)
