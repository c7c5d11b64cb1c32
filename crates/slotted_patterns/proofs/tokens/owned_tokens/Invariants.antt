use Rattle.std.proofs.Common.{◌≡◌, map, take}
use Rattle.slotted_slots.specs.Syntax.{lexeme_of}
use Rattle.slotted_patterns.specs.LentTokens.{lexeme}
use Rattle.slotted_patterns.proofs.tokens.owned_tokens.Given as goal

abbrev pub invariant-loop-token : goal.invariant-loop-token
invariant-loop-token l = map lexeme_of l.owned.items ≡ map lexeme (take l.token-index l.tokens)
