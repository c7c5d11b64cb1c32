-- The node has as many places as before.
use Rattle.std.proofs.Common.{◌≡◌, length}
use Rattle.slotted_changes.proofs.naming.swap_names.Given as goal

abbrev pub invariant-loop-i : goal.invariant-loop-i
invariant-loop-i g l = length (g.L.LanguageChildren.form l.node).names ≡ length (g.L.LanguageChildren.form l.initial.node).names
