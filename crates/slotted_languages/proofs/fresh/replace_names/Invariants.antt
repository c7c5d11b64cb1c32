-- The names at the places so far are replaced.
use Rattle.std.proofs.Common.{◌≡◌, ◌++◌, take, drop, map}
use Rattle.slotted_languages.specs.Fresh.{replaced}
use Rattle.slotted_languages.specs.Shape.{with_names}
use Rattle.slotted_languages.proofs.fresh.replace_names.Given as goal

abbrev pub invariant-loop-i : goal.invariant-loop-i
invariant-loop-i g l =
    let f = g.L.LanguageChildren.form l.node in
    g.L.LanguageChildren.form l.answer ≡ with_names f (map (replaced l.names) (take l.i f.names) ++ drop l.i f.names)
