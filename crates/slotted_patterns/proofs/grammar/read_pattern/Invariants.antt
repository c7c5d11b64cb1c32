use Rattle.std.proofs.Common.{◌+◌, ◌*◌, [], map, length}
use Rattle.slotted_slots.specs.Syntax.{lexeme_of}
use Rattle.slotted_patterns.specs.Reader.{ReadsAs, weight}
use Rattle.slotted_patterns.specs.declared.grammar.Point.TheVariants.{Due}
use Rattle.slotted_patterns.proofs.grammar.read_pattern.Given as goal

abbrev pub invariant-loop-at : goal.invariant-loop-at
invariant-loop-at g l =
    ReadsAs g.L.LanguageChildren.form g.L.LanguageChildren.read [] Due (map lexeme_of l.fn.tokens.items) l.stack.items l.at (map lexeme_of l.tokens.items)

abbrev pub decreases-loop-at : goal.decreases-loop-at
decreases-loop-at g l = weight l.at + 2 * length l.tokens.items
