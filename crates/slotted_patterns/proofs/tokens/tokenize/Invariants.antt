use Rattle.std.proofs.Common.{length, map}
use Rattle.slotted_patterns.specs.LentTokens.{lexeme}
use Rattle.std.specs.Str.{chars, IsUtf8}
use Rattle.slotted_slots.specs.Table.{KnowsMore}
use Rattle.slotted_patterns.specs.Tokens.{BeginsWith}
use Rattle.slotted_patterns.proofs.tokens.tokenize.Given as goal

abbrev pub invariant-loop-tokens : goal.invariant-loop-tokens
invariant-loop-tokens l = record {
  read : BeginsWith l.fn.table (chars l.fn.text) (map lexeme l.tokens.items) (chars l.rest) l.table;
  more : KnowsMore l.fn.table l.table;
  utf8 : IsUtf8 l.rest;
}

abbrev pub decreases-loop-tokens : goal.decreases-loop-tokens
decreases-loop-tokens l = length (chars l.rest)
