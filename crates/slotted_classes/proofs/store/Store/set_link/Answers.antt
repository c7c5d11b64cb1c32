use Rattle.std.proofs.Common.{◌≡◌, ◌<◌, ◌∙◌, ◌+◌, ◌++◌, ◌∷◌, [], ap, map, length, refl, subst, sym, arith, suc}
use Rattle.slotted_model.specs.Find.{Entry}
use Rattle.slotted_classes.specs.Counts.{counts_of}
use Rattle.slotted_classes.specs.Kept.{Kept, ClassEntry, IsCounted, class_entry, dead_from, find_at, with_linked, symmetry_entry}
use Rattle.slotted_classes.proofs.CountedClasses.{counted-linked, counted-same, counts-within}
use Rattle.slotted_classes.proofs.DeadClasses.{live-fewer}
use Rattle.slotted_classes.proofs.KeptLists.{length-mapped}
use Rattle.slotted_classes.proofs.Writes.{read_entry, set_entry, written}
use Rattle.slotted_classes.specs.declared.store.Class.{Class}
use Rattle.slotted_classes.proofs.store.Store.set_link.Goals as goal

pub overflow_add-self : goal.overflow_add-self
overflow_add-self g c =
    let r = c.requires in
    let few = live-fewer c.args.self.now c.args.dead r.within r.live in
    let count = ap (λ (k : Kept). length k.classes) c.self.view_is in
    let dead = ap (λ (k : Kept). dead_from 0 k.classes) c.self.view_is in
    omega (arith, c.self.invariant.links, few, count, dead, length-mapped (λ (k : Class g.row.L.Denot). class_entry g.L.LanguageChildren.form k) c.self.inside.classes.items, c.self.inside.classes.ok)

pub overflow_sub-self : goal.overflow_sub-self
overflow_sub-self g c =
    let r = c.requires in
    let entry : Class g.row.L.Denot → ClassEntry = λ k. (g.L.LanguageChildren.form k.node, record { class = k.find.id.0; pairs = k.find.m; proof = k.proof; died = k.died }) in
    let x : Entry = record { class = c.args.find.id.0; pairs = c.args.find.m; proof = c.args.proof; died = c.self.inside.moment } in
    let counted : IsCounted c.args.self.now.moment c.self.inside.size c.args.self.now.deaths c.args.self.now.classes =
    subst (λ (k : Kept). IsCounted k.moment c.self.inside.size k.deaths k.classes) c.self.view_is c.self.invariant in
    let within : c.args.dead < length c.self.inside.classes.items = omega (arith, r.within, ap (λ (k : Kept). length k.classes) c.self.view_is, length-mapped entry c.self.inside.classes.items) in
    let read = read_entry entry c.self.inside.classes.items c.args.dead c.index_mut-class.result.now _ within c.index_mut-class.ensures.value in
    omega (
      arith,
      counts-within c.args.self.now c.self.inside.size counted c.args.dead r.within r.live x,
      c.map_size-less.ensures.value,
      ap (λ (k : Kept). length (find_at k c.args.dead).pairs) c.self.view_is,
      ap (λ (y : ClassEntry). length y.1.pairs) read,
    )

pub invariant_of-self-2 : goal.invariant_of-self-2
invariant_of-self-2 g c =
    let r = c.requires in
    let form = g.L.LanguageChildren.form in
    let entry : Class g.row.L.Denot → ClassEntry = λ k. (form k.node, record { class = k.find.id.0; pairs = k.find.m; proof = k.proof; died = k.died }) in
    let x : Entry = record { class = c.args.find.id.0; pairs = c.args.find.m; proof = c.args.proof; died = c.self.inside.moment } in
    let new : Class g.row.L.Denot = record { node = c.index_mut-class.result.now.node; find = c.args.find; proof = c.args.proof; died = c.self.inside.moment; last_proof = c.index_mut-class.result.now.last_proof } in
    let counted : IsCounted c.args.self.now.moment c.self.inside.size c.args.self.now.deaths c.args.self.now.classes =
    subst (λ (k : Kept). IsCounted k.moment c.self.inside.size k.deaths k.classes) c.self.view_is c.self.invariant in
    let within : c.args.dead < length c.self.inside.classes.items = omega (arith, r.within, ap (λ (k : Kept). length k.classes) c.self.view_is, length-mapped entry c.self.inside.classes.items) in
    let read = read_entry entry c.self.inside.classes.items c.args.dead c.index_mut-class.result.now _ within c.index_mut-class.ensures.value in
    let classes = set_entry entry c.self.inside.classes.items c.args.dead c.index_mut-class.result.now new _ x within c.index_mut-class.ensures.value refl in
    let pairs : length (find_at c.args.self.now c.args.dead).pairs ≡ length c.index_mut-class.result.now.find.m =
    sym (ap (λ (k : Kept). length (find_at k c.args.dead).pairs) c.self.view_is) ∙ ap (λ (y : ClassEntry). length y.1.pairs) read in
    counted-same (omega (arith, ap (λ (k : Kept). k.moment) c.self.view_is)) (omega (arith, pairs, c.map_size-less.ensures.value))
    (ap (λ (k : Kept). k.deaths ++ c.args.dead ∷ []) (sym c.self.view_is) ∙ sym c.in_ok-push.ensures.items)
    (ap (λ (k : Kept). written k c.args.dead x) (sym c.self.view_is) ∙ sym classes)
    (counted-linked c.args.self.now c.self.inside.size counted c.args.dead r.within r.live x r.different)

pub returns-clause-ok : goal.returns-clause-ok
returns-clause-ok g c =
    let form = g.L.LanguageChildren.form in
    let entry : Class g.row.L.Denot → ClassEntry = λ k. (form k.node, record { class = k.find.id.0; pairs = k.find.m; proof = k.proof; died = k.died }) in
    let x : Entry = record { class = c.args.find.id.0; pairs = c.args.find.m; proof = c.args.proof; died = c.self.inside.moment } in
    let new : Class g.row.L.Denot = record { node = c.index_mut-class.result.now.node; find = c.args.find; proof = c.args.proof; died = c.self.inside.moment; last_proof = c.index_mut-class.result.now.last_proof } in
    let within : c.args.dead < length c.self.inside.classes.items = omega (arith, c.requires.within, ap (λ (k : Kept). length k.classes) c.self.view_is, length-mapped entry c.self.inside.classes.items) in
    let classes = set_entry entry c.self.inside.classes.items c.args.dead c.index_mut-class.result.now new _ x within c.index_mut-class.ensures.value refl in
    let moment : c.self.inside.moment + 1 ≡ suc c.self.inside.moment = omega arith in
    (λ i. record { classes = classes i; rows = map (λ e. (form e.0, (e.1.source.0, e.1.names))) c.self.inside.rows.entries; symmetries = map symmetry_entry c.self.inside.symmetries.items; dropped = c.self.inside.dropped; proofs = c.self.inside.proofs; moment = moment i; deaths = c.in_ok-push.ensures.items i; counts = counts_of c.self.inside.count c.self.inside.total_turns c.self.inside.total_bound })
    ∙ ap (λ (k : Kept). with_linked k c.args.dead c.args.find.id.0 c.args.find.m c.args.proof) c.self.view_is
