-- What was written, and what the pieces on the stack print.
use Rattle.std.proofs.Common.{◌≡◌, ◌++◌, string_bytes}
use Rattle.slotted_patterns.specs.Pieces.{pending, weights}
use Rattle.slotted_patterns.specs.Shown.{pattern_text}
use Rattle.slotted_patterns.proofs.pattern.Pattern.text.Given as goal

abbrev pub invariant-loop-piece : goal.invariant-loop-piece
invariant-loop-piece g l =
    string_bytes l.text ++ pending g.L.LanguageChildren.shown l.table l.left.items ≡ pattern_text g.L.LanguageChildren.shown l.table l.self

abbrev pub decreases-loop-piece : goal.decreases-loop-piece
decreases-loop-piece g l = weights g.L.LanguageChildren.shown l.left.items
