use Rattle.std.proofs.Common.{◌≡◌}
use Rattle.slotted_languages.proofs.Outlines.{blank_to}
use Rattle.slotted_languages.proofs.outline.blank.Given as goal

abbrev pub invariant-loop-i : goal.invariant-loop-i
invariant-loop-i g l = g.L.LanguageChildren.form l.node ≡ blank_to (g.L.LanguageChildren.form l.initial.node) l.i
