-- The set has what stands at the places so far.
use Rattle.std.proofs.Common.{◌≡◌, take}
use Rattle.std.specs.Prelude.{ℕ, ◌&&◌}
use Rattle.slotted_slots.specs.Maps.{is_among}
use Rattle.slotted_languages.proofs.fresh.names_within.Given as goal

abbrev pub invariant-loop-i : goal.invariant-loop-i
invariant-loop-i g l = (x : ℕ) → is_among x l.within ≡ (is_among x (take l.i (g.L.LanguageChildren.form l.node).names) && is_among x l.set)
