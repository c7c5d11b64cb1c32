use Rattle.std.proofs.Common.{◌≡◌, [], Some, sym, ap, ◌∙◌}
use Rattle.std.specs.Prelude.{option_map, slice_get}
use Rattle.std.specs.Map.Iter.{deref_pair}
use Rattle.slotted_classes.specs.Kept.{Kept, RowEntry, names_at, no_form, row_entry}
use Rattle.slotted_classes.proofs.RowsByForm.{image-at}
use Rattle.slotted_classes.proofs.store.Store.names_of.Goals as goal

pub returns : goal.returns
returns g c =
    let es = c.self.inside.rows.entries in
    let at : slice_get es c.args.id ≡ Some (c.in-Some.field-0-0.now, c.in-Some.row.now) = sym c.get_index.ensures.entry ∙ ap (option_map deref_pair) c.in-Some.is in
    sym (ap (λ (r : RowEntry). r.1.1) (image-at (row_entry g.L.LanguageChildren.form) es c.args.id (c.in-Some.field-0-0.now, c.in-Some.row.now) (no_form, (0, [])) at))
    ∙ ap (λ (k : Kept). names_at k c.args.id) c.self.view_is
