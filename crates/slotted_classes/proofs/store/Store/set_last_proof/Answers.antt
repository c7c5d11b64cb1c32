use Rattle.std.proofs.Common.{◌∙◌, map, refl, subst, sym}
use Rattle.slotted_classes.specs.Counts.{counts_of}
use Rattle.slotted_classes.specs.Kept.{ClassEntry, IsCounted, symmetry_entry}
use Rattle.slotted_classes.proofs.Writes.{set_alike}
use Rattle.slotted_classes.specs.declared.store.Class.{Class}
use Rattle.slotted_classes.proofs.store.Store.set_last_proof.Goals as goal

pub invariant_of-self : goal.invariant_of-self
invariant_of-self g c =
    let form = g.L.LanguageChildren.form in
    let entry : Class g.row.L.Denot → ClassEntry = λ k. (form k.node, record { class = k.find.id.0; pairs = k.find.m; proof = k.proof; died = k.died }) in
    let old = c.index_mut.result.now in
    let new : Class g.row.L.Denot = record { node = old.node; find = old.find; proof = old.proof; died = old.died; last_proof = c.args.p } in
    let same = set_alike entry c.self.inside.classes.items c.args.id old new _ c.index_mut.ensures.value refl in
    subst (IsCounted c.self.inside.moment c.self.inside.size c.self.inside.deaths.items) (sym same) c.self.invariant

pub returns : goal.returns
returns g c =
    let form = g.L.LanguageChildren.form in
    let entry : Class g.row.L.Denot → ClassEntry = λ k. (form k.node, record { class = k.find.id.0; pairs = k.find.m; proof = k.proof; died = k.died }) in
    let old = c.index_mut.result.now in
    let new : Class g.row.L.Denot = record { node = old.node; find = old.find; proof = old.proof; died = old.died; last_proof = c.args.p } in
    let classes = set_alike entry c.self.inside.classes.items c.args.id old new _ c.index_mut.ensures.value refl in
    (λ i. record { classes = classes i; rows = map (λ e. (form e.0, (e.1.source.0, e.1.names))) c.self.inside.rows.entries; symmetries = map symmetry_entry c.self.inside.symmetries.items; dropped = c.self.inside.dropped; proofs = c.self.inside.proofs; moment = c.self.inside.moment; deaths = c.self.inside.deaths.items; counts = counts_of c.self.inside.count c.self.inside.total_turns c.self.inside.total_bound })
    ∙ c.self.view_is
