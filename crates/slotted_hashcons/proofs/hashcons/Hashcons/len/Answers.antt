use Rattle.std.proofs.Common.{◌∙◌, ap, length}
use Rattle.slotted_hashcons.specs.FiledRows.{Rows, rows_in}
use Rattle.slotted_hashcons.proofs.CountedPlaces.{rows-counted}
use Rattle.slotted_hashcons.proofs.hashcons.Hashcons.len.Goals as goal

pub returns : goal.returns
returns g c = c.len.ensures ∙ (rows-counted c.self.inside.nodes ∙ ap (λ (r : Rows). length (rows_in r.filed)) c.self.view_is)
