-- What stands beside the children stays.
use Rattle.slotted_languages.specs.Beside.{IsBeside}
use Rattle.slotted_operations.proofs.syn.forget_children.Given as goal

abbrev pub invariant-loop-k : goal.invariant-loop-k
invariant-loop-k g l = IsBeside (g.L.LanguageChildren.form l.initial.node) (g.L.LanguageChildren.form l.node)
