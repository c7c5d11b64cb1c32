use Rattle.std.proofs.Common.{◌≡◌}
use Rattle.slotted_model.specs.Find.{find}
use Rattle.slotted_classes.specs.Kept.{entries_of}
use Rattle.slotted_hashcons.proofs.ReplacedChildren.{first_form}
use Rattle.slotted_hashcons.proofs.normal.normal_of.Given as goal

-- the children so far are what they find
abbrev pub invariant-loop-k : goal.invariant-loop-k
invariant-loop-k g l = g.L.LanguageChildren.form l.normal ≡ first_form (find (entries_of l.store)) (g.L.LanguageChildren.form l.node) l.k
