use Rattle.std.proofs.Common.{◌≤◌, ◌^◌, ◌∙◌, ap, ◌∷◌, ◌++◌, [], map, length, subst, sym, arith}
use Rattle.std.proofs.lemmas.List.{length-append, map-append}
use Rattle.slotted_classes.specs.Counts.{counts_of}
use Rattle.slotted_classes.specs.Kept.{Kept, ClassEntry, IsCounted, found, with_filed, symmetry_entry}
use Rattle.slotted_classes.proofs.CountedClasses.{counted-few, counted-more, counted-same}
use Rattle.slotted_classes.proofs.KeptLists.{length-mapped}
use Rattle.slotted_classes.proofs.RowsByForm.{rows-insert_entry}
use Rattle.slotted_classes.specs.declared.store.Row.{Row}
use Rattle.slotted_classes.specs.declared.store.Class.{Class}
use Rattle.slotted_classes.proofs.store.Store.file.Goals as goal

pub overflow_add-self : goal.overflow_add-self
overflow_add-self g c =
    let k = c.args.self.now in
    let entry : Class g.row.L.Denot → ClassEntry = λ y. (g.L.LanguageChildren.form y.node, record { class = y.find.id.0; pairs = y.find.m; proof = y.proof; died = y.died }) in
    let counted : IsCounted k.moment c.self.inside.size k.deaths k.classes =
    subst (λ (l : Kept). IsCounted l.moment c.self.inside.size l.deaths l.classes) c.self.view_is c.self.invariant in
    let more = counted-more k c.self.inside.size counted (entry c.args.class) c.requires.live (omega (arith, c.map_size-more.ensures.value, c.map_size-more.ensures.bound)) in
    let few : length (k.classes ++ entry c.args.class ∷ []) ≤ 2 ^ 63 =
    omega (arith, ap (λ (l : Kept). length l.classes) c.self.view_is, length-mapped entry c.self.inside.classes.items, c.self.inside.classes.ok, length-append k.classes (entry c.args.class ∷ [])) in
    omega (arith, counted-few k.moment _ k.deaths (k.classes ++ entry c.args.class ∷ []) more few, c.map_size-more.ensures.value)

pub invariant_of-self-2 : goal.invariant_of-self-2
invariant_of-self-2 g c =
    let k = c.args.self.now in
    let entry : Class g.row.L.Denot → ClassEntry = λ y. (g.L.LanguageChildren.form y.node, record { class = y.find.id.0; pairs = y.find.m; proof = y.proof; died = y.died }) in
    let counted : IsCounted k.moment c.self.inside.size k.deaths k.classes =
    subst (λ (l : Kept). IsCounted l.moment c.self.inside.size l.deaths l.classes) c.self.view_is c.self.invariant in
    let classes = ap (map entry) c.in_ok-push.ensures.items ∙ map-append entry c.self.inside.classes.items (c.args.class ∷ []) in
    counted-same (ap (λ (l : Kept). l.moment) (sym c.self.view_is)) (omega (arith, c.map_size-more.ensures.value)) (ap (λ (l : Kept). l.deaths) (sym c.self.view_is))
    (ap (λ (l : Kept). l.classes ++ entry c.args.class ∷ []) (sym c.self.view_is) ∙ sym classes)
    (counted-more k c.self.inside.size counted (entry c.args.class) c.requires.live (omega (arith, c.map_size-more.ensures.value, c.map_size-more.ensures.bound)))

pub returns-clause-ok : goal.returns-clause-ok
returns-clause-ok g c =
    let form = g.L.LanguageChildren.form in
    let entry : Class g.row.L.Denot → ClassEntry = λ k. (form k.node, record { class = k.find.id.0; pairs = k.find.m; proof = k.proof; died = k.died }) in
    let rows = rows-insert_entry g.L.PartialEq.eq form (λ (r : Row). (r.source.0, r.names)) g.met.L.LanguageChildren.same c.self.inside.rows.entries c.args.shape c.args.row
    (ap (λ (k : Kept). found k.rows (form c.args.shape)) c.self.view_is ∙ c.requires.absent) in
    let classes = ap (map entry) c.in_ok-push.ensures.items ∙ map-append entry c.self.inside.classes.items (c.args.class ∷ []) in
    (λ i. record { classes = classes i; rows = (ap (map (λ e. (form e.0, (e.1.source.0, e.1.names)))) c.in_ok-insert.ensures.entries ∙ rows) i; symmetries = map symmetry_entry c.self.inside.symmetries.items; dropped = c.self.inside.dropped; proofs = c.self.inside.proofs; moment = c.self.inside.moment; deaths = c.self.inside.deaths.items; counts = counts_of c.self.inside.count c.self.inside.total_turns c.self.inside.total_bound })
    ∙ ap (λ (k : Kept). with_filed k (form c.args.shape) (c.args.row.source.0, c.args.row.names) (entry c.args.class)) c.self.view_is
