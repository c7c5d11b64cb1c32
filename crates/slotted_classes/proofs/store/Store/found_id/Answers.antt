use Rattle.std.proofs.Common.{◌≡◌, ◌∙◌, ap}
use Rattle.slotted_model.specs.Correspondence.{composite}
use Rattle.slotted_model.specs.Find.{find_map}
use Rattle.slotted_classes.specs.Kept.{Kept, entries_of}
use Rattle.slotted_proofs.proofs.Bridges.{composed-model}
use Rattle.slotted_classes.proofs.store.Store.found_id.Goals as goal

pub returns-clause-ok : goal.returns-clause-ok
returns-clause-ok g c =
    let k : Kept = c.args.self.now in
    let e : c.in_ok-compose_partial.field-0 ≡ composite (find_map (entries_of k) c.args.a.now.id.0) c.args.a.now.m =
    c.in_ok-compose_partial.ensures.ok ∙ (composed-model c.in_ok-map.map c.args.a.now.m ∙ ap (λ m. composite m c.args.a.now.m) c.in_ok-map.ensures.ok) in
    λ i. (c.find_class.ensures.class i, e i)
