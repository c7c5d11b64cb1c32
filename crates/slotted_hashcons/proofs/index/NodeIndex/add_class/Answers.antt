use Rattle.std.proofs.Common.{◌∙◌, [], ◌∷◌, ◌++◌, List, Option, None, ap}
use Rattle.slotted_hashcons.specs.Filed.{Filing, joined}
use Rattle.slotted_hashcons.proofs.JoinedNames.{joined-added, joined-longer}
use Rattle.slotted_hashcons.proofs.Places.{on_err}
use Rattle.slotted_hashcons.proofs.index.NodeIndex.add_class.Goals as goal

pub returns-in_err-add_class-2-clause-unchanged : goal.returns-in_err-add_class-2-clause-unchanged
returns-in_err-add_class-2-clause-unchanged g c =
    on_err c.from_residual-in_err-add_class-2.result
    ((λ i. joined (c.in_err-add_class-2.ensures.unchanged i) (c.in_ok-add_class.ensures.ok i))
    ∙ joined-longer c.self.inside.keys c.self.inside.names [] c.self.invariant
    ∙ c.self.view_is)

pub returns-clause-ok : goal.returns-clause-ok
returns-clause-ok g c =
    (λ i. joined (c.in_ok-add_class-2.ensures.ok i) (c.in_ok-add_class.ensures.ok i))
    ∙ joined-added c.self.inside.keys c.self.inside.names [] c.self.invariant
    ∙ ap (λ (v : List (Option Filing)). v ++ None ∷ []) c.self.view_is
