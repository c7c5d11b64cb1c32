use Rattle.std.proofs.Common.{◌∙◌, ap}
use Rattle.std.specs.Prelude.{option_map}
use Rattle.slotted_classes.specs.Kept.{Kept, found}
use Rattle.slotted_classes.proofs.RowsByForm.{option_map-copied, found-lookup}
use Rattle.slotted_classes.specs.declared.store.Row.{Row}
use Rattle.slotted_classes.proofs.store.Store.row.Goals as goal

pub returns : goal.returns
returns g c =
    option_map-copied (λ (r : Row). (r.source.0, r.names)) c.get.result
    ∙ (ap (option_map (λ (r : Row). (r.source.0, r.names))) c.get.ensures.value
    ∙ (found-lookup g.L.PartialEq.eq g.L.LanguageChildren.form (λ (r : Row). (r.source.0, r.names)) g.met.L.LanguageChildren.same c.self.inside.rows.entries c.args.shape.now
    ∙ ap (λ (k : Kept). found k.rows (g.L.LanguageChildren.form c.args.shape.now)) c.self.view_is))
