use Rattle.std.proofs.Common.{◌∙◌, ap, sym}
use Rattle.std.specs.Cmp.{unsigned_Decides}
use Rattle.slotted_model.specs.Applied.{Applied}
use Rattle.slotted_model.specs.Find.{Entry}
use Rattle.slotted_classes.proofs.KeptLists.{entry_at-of}
use Rattle.slotted_lookup.proofs.reports.is_alive.Goals as goal

pub returns : goal.returns
returns g c =
    let class = c.args.class in
    let same = ap (λ (a : Applied). a.0) c.entry.ensures ∙ sym (ap (λ (e : Entry). e.class) (entry_at-of c.args.store.now class)) in
    let decides = unsigned_Decides c.entry.result.now.id.0 class in
    (λ y. sym same ∙ decides.0 y, λ e. decides.1 (same ∙ e))
