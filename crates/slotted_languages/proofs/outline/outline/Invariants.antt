use Rattle.std.proofs.Common.{◌≡◌}
use Rattle.slotted_languages.proofs.Outlines.{first_form}
use Rattle.slotted_languages.proofs.outline.outline.Given as goal

abbrev pub invariant-loop-k : goal.invariant-loop-k
invariant-loop-k g l = g.L.LanguageChildren.form l.outline ≡ first_form l.name (g.L.LanguageChildren.form l.node) l.k
