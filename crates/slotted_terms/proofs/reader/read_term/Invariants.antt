-- What was read of the tokens so far leads to a reading of them all.
use Rattle.std.proofs.Common.{map, drop}
use Rattle.slotted_slots.specs.Syntax.{element_of}
use Rattle.slotted_patterns.specs.LentTokens.{lexeme}
use Rattle.slotted_terms.specs.Reader.{Reached, front}
use Rattle.slotted_terms.proofs.reader.read_term.Given as goal

abbrev pub invariant-loop-token : goal.invariant-loop-token
invariant-loop-token g l =
    Reached g.L.LanguageChildren.form g.L.LanguageChildren.read (map lexeme l.tokens) (map element_of l.elements.items) l.terms.items (front l.due (map lexeme (drop l.token-index l.tokens)))
