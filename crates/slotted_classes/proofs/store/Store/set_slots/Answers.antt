use Rattle.std.proofs.Common.{◌≡◌, ◌<◌, ◌≤◌, ◌^◌, ◌∙◌, ap, map, length, refl, subst, sym, true, arith}
use Rattle.slotted_model.specs.Find.{Entry}
use Rattle.slotted_classes.specs.Counts.{counts_of}
use Rattle.slotted_classes.specs.Kept.{Kept, ClassEntry, IsCounted, find_at, with_fewer, symmetry_entry}
use Rattle.slotted_classes.proofs.CountedClasses.{counted-few, counted-kept, counted-same, counts-within}
use Rattle.slotted_classes.proofs.KeptLists.{length-mapped}
use Rattle.slotted_classes.proofs.Writes.{read_entry, set_entry, written, written-length}
use Rattle.slotted_classes.specs.declared.store.Class.{Class}
use Rattle.slotted_classes.proofs.store.Store.set_slots.Goals as goal

pub overflow_sub-self : goal.overflow_sub-self
overflow_sub-self g c =
    let r = c.requires in
    let entry : Class g.row.L.Denot → ClassEntry = λ k. (g.L.LanguageChildren.form k.node, record { class = k.find.id.0; pairs = k.find.m; proof = k.proof; died = k.died }) in
    let x : Entry = record { class = c.args.live; pairs = c.args.slots; proof = c.args.proof; died = 0 } in
    let counted : IsCounted c.args.self.now.moment c.self.inside.size c.args.self.now.deaths c.args.self.now.classes =
    subst (λ (k : Kept). IsCounted k.moment c.self.inside.size k.deaths k.classes) c.self.view_is c.self.invariant in
    let within : c.args.live < length c.self.inside.classes.items = omega (arith, r.within, ap (λ (k : Kept). length k.classes) c.self.view_is, length-mapped entry c.self.inside.classes.items) in
    let read = read_entry entry c.self.inside.classes.items c.args.live c.index_mut-class.result.now _ within c.index_mut-class.ensures.value in
    omega (
      arith,
      counts-within c.args.self.now c.self.inside.size counted c.args.live r.within r.live x,
      c.map_size-less.ensures.value,
      ap (λ (k : Kept). length (find_at k c.args.live).pairs) c.self.view_is,
      ap (λ (y : ClassEntry). length y.1.pairs) read,
    )

pub overflow_add-self : goal.overflow_add-self
overflow_add-self g c =
    let r = c.requires in
    let k = c.args.self.now in
    let entry : Class g.row.L.Denot → ClassEntry = λ y. (g.L.LanguageChildren.form y.node, record { class = y.find.id.0; pairs = y.find.m; proof = y.proof; died = y.died }) in
    let x : Entry = record { class = c.args.live; pairs = c.args.slots; proof = c.args.proof; died = 0 } in
    let counted : IsCounted k.moment c.self.inside.size k.deaths k.classes =
    subst (λ (l : Kept). IsCounted l.moment c.self.inside.size l.deaths l.classes) c.self.view_is c.self.invariant in
    let within : c.args.live < length c.self.inside.classes.items = omega (arith, r.within, ap (λ (l : Kept). length l.classes) c.self.view_is, length-mapped entry c.self.inside.classes.items) in
    let read = read_entry entry c.self.inside.classes.items c.args.live c.index_mut-class.result.now _ within c.index_mut-class.ensures.value in
    let pairs : length (find_at k c.args.live).pairs ≡ length c.index_mut-class.result.now.find.m =
    sym (ap (λ (l : Kept). length (find_at l c.args.live).pairs) c.self.view_is) ∙ ap (λ (y : ClassEntry). length y.1.pairs) read in
    let kept = counted-kept k c.self.inside.size counted c.args.live r.within r.live x refl (omega (arith, c.map_size-more.ensures.value, c.map_size-more.ensures.bound)) in
    let few : length (written k c.args.live x) ≤ 2 ^ 63 =
    omega (arith, written-length k c.args.live x, ap (λ (l : Kept). length l.classes) c.self.view_is, length-mapped entry c.self.inside.classes.items, c.self.inside.classes.ok) in
    omega (arith, counted-few k.moment _ k.deaths (written k c.args.live x) kept few, pairs, c.map_size-less.ensures.value, c.map_size-more.ensures.value)

pub invariant_of-self : goal.invariant_of-self
invariant_of-self g c =
    let r = c.requires in
    let form = g.L.LanguageChildren.form in
    let entry : Class g.row.L.Denot → ClassEntry = λ k. (form k.node, record { class = k.find.id.0; pairs = k.find.m; proof = k.proof; died = k.died }) in
    let x : Entry = record { class = c.args.live; pairs = c.args.slots; proof = c.args.proof; died = 0 } in
    let new : Class g.row.L.Denot = record { node = c.index_mut-class.result.now.node; find = record { id = record { 0 = c.args.live }; m = c.args.slots }; proof = c.args.proof; died = 0; last_proof = c.index_mut-class.result.now.last_proof } in
    let counted : IsCounted c.args.self.now.moment c.self.inside.size c.args.self.now.deaths c.args.self.now.classes =
    subst (λ (k : Kept). IsCounted k.moment c.self.inside.size k.deaths k.classes) c.self.view_is c.self.invariant in
    let within : c.args.live < length c.self.inside.classes.items = omega (arith, r.within, ap (λ (k : Kept). length k.classes) c.self.view_is, length-mapped entry c.self.inside.classes.items) in
    let read = read_entry entry c.self.inside.classes.items c.args.live c.index_mut-class.result.now _ within c.index_mut-class.ensures.value in
    let classes = set_entry entry c.self.inside.classes.items c.args.live c.index_mut-class.result.now new _ x within c.index_mut-class.ensures.value refl in
    let pairs : length (find_at c.args.self.now c.args.live).pairs ≡ length c.index_mut-class.result.now.find.m =
    sym (ap (λ (k : Kept). length (find_at k c.args.live).pairs) c.self.view_is) ∙ ap (λ (y : ClassEntry). length y.1.pairs) read in
    counted-same (ap (λ (k : Kept). k.moment) (sym c.self.view_is)) (omega (arith, pairs, c.map_size-less.ensures.value, c.map_size-more.ensures.value))
    (ap (λ (k : Kept). k.deaths) (sym c.self.view_is))
    (ap (λ (k : Kept). written k c.args.live x) (sym c.self.view_is) ∙ sym classes)
    (counted-kept c.args.self.now c.self.inside.size counted c.args.live r.within r.live x refl (omega (arith, c.map_size-more.ensures.value, c.map_size-more.ensures.bound)))

pub returns : goal.returns
returns g c =
    let form = g.L.LanguageChildren.form in
    let entry : Class g.row.L.Denot → ClassEntry = λ k. (form k.node, record { class = k.find.id.0; pairs = k.find.m; proof = k.proof; died = k.died }) in
    let x : Entry = record { class = c.args.live; pairs = c.args.slots; proof = c.args.proof; died = 0 } in
    let new : Class g.row.L.Denot = record { node = c.index_mut-class.result.now.node; find = record { id = record { 0 = c.args.live }; m = c.args.slots }; proof = c.args.proof; died = 0; last_proof = c.index_mut-class.result.now.last_proof } in
    let within : c.args.live < length c.self.inside.classes.items = omega (arith, c.requires.within, ap (λ (k : Kept). length k.classes) c.self.view_is, length-mapped entry c.self.inside.classes.items) in
    let classes = set_entry entry c.self.inside.classes.items c.args.live c.index_mut-class.result.now new _ x within c.index_mut-class.ensures.value refl in
    (λ i. record { classes = classes i; rows = map (λ e. (form e.0, (e.1.source.0, e.1.names))) c.self.inside.rows.entries; symmetries = map symmetry_entry c.self.inside.symmetries.items; dropped = true; proofs = c.self.inside.proofs; moment = c.self.inside.moment; deaths = c.self.inside.deaths.items; counts = counts_of c.self.inside.count c.self.inside.total_turns c.self.inside.total_bound })
    ∙ ap (λ (k : Kept). with_fewer k c.args.live c.args.slots c.args.proof) c.self.view_is
