use Rattle.std.proofs.Common.{◌∙◌, ap, sym, Option, List}
use Rattle.std.specs.Prelude.{is_some}
use Rattle.std.specs.List.{count_by}
use Rattle.slotted_hashcons.specs.Filed.{Filing}
use Rattle.slotted_hashcons.proofs.CountedPlaces.{taken-joined}
use Rattle.slotted_hashcons.proofs.index.NodeIndex.len.Goals as goal

pub returns : goal.returns
returns g c =
    c.len.ensures ∙ (sym (taken-joined c.self.inside.keys c.self.inside.names c.self.invariant) ∙ ap (λ (v : List (Option Filing)). count_by is_some v) c.self.view_is)
