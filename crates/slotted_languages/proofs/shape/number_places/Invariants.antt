use Rattle.slotted_languages.specs.Walk.{walk_of, IsNumbering}
use Rattle.slotted_languages.proofs.WalkSteps.{IsNumbered}
use Rattle.slotted_languages.proofs.shape.number_places.Given as goal

abbrev pub invariant-loop-i : goal.invariant-loop-i
invariant-loop-i g l =
    let f = g.L.LanguageChildren.form l.fn.node in
    record {
      numbered : IsNumbered f (g.L.LanguageChildren.form l.node) (walk_of l.numbering) l.i;
      good : IsNumbering l.numbering;
    }
