use Rattle.std.proofs.Common.{◌≡◌, take}
use Rattle.slotted_languages.proofs.places.all_names.Given as goal

abbrev pub invariant-loop-i : goal.invariant-loop-i
invariant-loop-i g l = l.names.items ≡ take l.i (g.L.LanguageChildren.form l.node).names
