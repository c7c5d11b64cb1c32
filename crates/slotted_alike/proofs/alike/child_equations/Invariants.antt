use Rattle.std.specs.Prelude.{All, []}
use Rattle.slotted_proofs.specs.Steps.{HasInjectiveSides}
use Rattle.slotted_alike.proofs.Frames.{FirstMatch, ids_under}
use Rattle.slotted_alike.proofs.alike.child_equations.Given as goal

-- the first k children match their equations
abbrev pub invariant-loop-k : goal.invariant-loop-k
invariant-loop-k g l =
    FirstMatch (ids_under [] (g.L.LanguageChildren.form l.left).tree (g.L.LanguageChildren.form l.left).names) (ids_under [] (g.L.LanguageChildren.form l.right).tree (g.L.LanguageChildren.form l.right).names) l.equations.items l.k
    × All HasInjectiveSides l.equations.items
