use Rattle.std.proofs.Common.{◌∙◌, ap, sym, Option, List}
use Rattle.std.specs.Prelude.{is_some}
use Rattle.std.specs.List.{count_by}
use Rattle.std.proofs.lemmas.List.{length-map}
use Rattle.slotted_hashcons.specs.Filed.{Filing, filed_row, rows_of}
use Rattle.slotted_hashcons.proofs.Indexed.{filed-count}
use Rattle.slotted_hashcons.proofs.keys.KeyIndex.len.Goals as goal

pub returns : goal.returns
returns g c =
    let form = g.L.LanguageChildren.form in
    c.len.ensures.len ∙ (sym (length-map c.self.inside.nodes.entries (filed_row form)) ∙ (sym (filed-count (rows_of form c.self.inside.nodes) c.self.inside.places.items c.self.invariant)
    ∙ ap (λ (v : List (Option Filing)). count_by is_some v) c.self.view_is))
