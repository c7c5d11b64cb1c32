use Rattle.std.proofs.Common.{◌≡◌, take, false}
use Rattle.slotted_slots.specs.Maps.{is_among}
use Rattle.slotted_languages.proofs.renaming.has_name.Given as goal

abbrev pub invariant-loop-i : goal.invariant-loop-i
invariant-loop-i g l = is_among l.name (take l.i (g.L.LanguageChildren.form l.node).names) ≡ false
