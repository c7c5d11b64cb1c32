use Rattle.std.proofs.Common.{◌≡◌, ◌<◌, ◌∙◌, ap, map, length, refl, subst, sym, arith}
use Rattle.slotted_model.specs.Find.{Entry}
use Rattle.slotted_classes.specs.Counts.{counts_of}
use Rattle.slotted_classes.specs.Kept.{Kept, ClassEntry, IsCounted, find_at, with_shortcut, symmetry_entry}
use Rattle.slotted_classes.proofs.CountedClasses.{counted-shortcut, counted-same}
use Rattle.slotted_classes.proofs.KeptLists.{length-mapped}
use Rattle.slotted_classes.proofs.Writes.{read_entry, set_entry, written}
use Rattle.slotted_classes.specs.declared.store.Class.{Class}
use Rattle.slotted_classes.proofs.store.Store.set_shortcut.Goals as goal

pub invariant_of-self : goal.invariant_of-self
invariant_of-self g c =
    let r = c.requires in
    let form = g.L.LanguageChildren.form in
    let entry : Class g.row.L.Denot → ClassEntry = λ k. (form k.node, record { class = k.find.id.0; pairs = k.find.m; proof = k.proof; died = k.died }) in
    let old = c.index_mut-entry.result.now in
    let x : Entry = record { class = c.args.find.id.0; pairs = c.args.find.m; proof = c.args.proof; died = old.died } in
    let new : Class g.row.L.Denot = record { node = old.node; find = c.args.find; proof = c.args.proof; died = old.died; last_proof = old.last_proof } in
    let counted : IsCounted c.args.self.now.moment c.self.inside.size c.args.self.now.deaths c.args.self.now.classes =
    subst (λ (k : Kept). IsCounted k.moment c.self.inside.size k.deaths k.classes) c.self.view_is c.self.invariant in
    let within : c.args.dead < length c.self.inside.classes.items = omega (arith, r.within, ap (λ (k : Kept). length k.classes) c.self.view_is, length-mapped entry c.self.inside.classes.items) in
    let classes = set_entry entry c.self.inside.classes.items c.args.dead old new _ x within c.index_mut-entry.ensures.value refl in
    counted-same (ap (λ (k : Kept). k.moment) (sym c.self.view_is)) refl (ap (λ (k : Kept). k.deaths) (sym c.self.view_is))
    (ap (λ (k : Kept). written k c.args.dead x) (sym c.self.view_is) ∙ sym classes)
    (counted-shortcut c.args.self.now c.self.inside.size counted c.args.dead r.within r.dead x r.different)

pub returns : goal.returns
returns g c =
    let form = g.L.LanguageChildren.form in
    let entry : Class g.row.L.Denot → ClassEntry = λ k. (form k.node, record { class = k.find.id.0; pairs = k.find.m; proof = k.proof; died = k.died }) in
    let old = c.index_mut-entry.result.now in
    let x : Entry = record { class = c.args.find.id.0; pairs = c.args.find.m; proof = c.args.proof; died = old.died } in
    let new : Class g.row.L.Denot = record { node = old.node; find = c.args.find; proof = c.args.proof; died = old.died; last_proof = old.last_proof } in
    let within : c.args.dead < length c.self.inside.classes.items = omega (arith, c.requires.within, ap (λ (k : Kept). length k.classes) c.self.view_is, length-mapped entry c.self.inside.classes.items) in
    let classes = set_entry entry c.self.inside.classes.items c.args.dead old new _ x within c.index_mut-entry.ensures.value refl in
    let read = read_entry entry c.self.inside.classes.items c.args.dead old _ within c.index_mut-entry.ensures.value in
    let moment : old.died ≡ (find_at c.args.self.now c.args.dead).died =
    sym (ap (λ (y : ClassEntry). y.1.died) read) ∙ ap (λ (k : Kept). (find_at k c.args.dead).died) c.self.view_is in
    (λ i. record { classes = classes i; rows = map (λ e. (form e.0, (e.1.source.0, e.1.names))) c.self.inside.rows.entries; symmetries = map symmetry_entry c.self.inside.symmetries.items; dropped = c.self.inside.dropped; proofs = c.self.inside.proofs; moment = c.self.inside.moment; deaths = c.self.inside.deaths.items; counts = counts_of c.self.inside.count c.self.inside.total_turns c.self.inside.total_bound })
    ∙ ((λ i. record { classes = written (c.self.view_is i) c.args.dead (record { class = c.args.find.id.0; pairs = c.args.find.m; proof = c.args.proof; died = moment i }); rows = (c.self.view_is i).rows; symmetries = (c.self.view_is i).symmetries; dropped = (c.self.view_is i).dropped; proofs = (c.self.view_is i).proofs; moment = (c.self.view_is i).moment; deaths = (c.self.view_is i).deaths; counts = (c.self.view_is i).counts }))
