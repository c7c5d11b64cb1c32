use Rattle.std.proofs.Common.{◌≡◌}
use Rattle.slotted_matching.proofs.Blanking.{blanked_to}
use Rattle.slotted_matching.proofs.rows.blank.Given as goal

abbrev pub invariant-loop-i : goal.invariant-loop-i
invariant-loop-i g l = g.L.LanguageChildren.form l.outline ≡ blanked_to l.mark (g.L.LanguageChildren.form l.initial.outline) l.i
