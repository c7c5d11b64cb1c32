use Rattle.std.proofs.Common.{◌≡◌, ◌++◌, take, drop, map}
use Rattle.slotted_languages.specs.Shape.{with_names}
use Rattle.slotted_classes.specs.Names.{put}
use Rattle.slotted_classes.proofs.names.put_at_places.Given as goal

-- the names so far are put, and the rest is as it was
abbrev pub invariant-loop-i : goal.invariant-loop-i
invariant-loop-i g l =
    let f = g.L.LanguageChildren.form l.fn.node in
    g.L.LanguageChildren.form l.node ≡ with_names f (map (put l.map) (take l.i f.names) ++ drop l.i f.names)
