use Rattle.std.proofs.Common.{◌≡◌, ◌<◌, ◌∙◌, ap, length, subst, sym}
use Rattle.std.proofs.lemmas.Bool.{eq-eqb, eqb-true}
use Rattle.slotted_model.specs.Applied.{Applied}
use Rattle.slotted_model.specs.Find.{Entry, IsLive, entry_at}
use Rattle.slotted_classes.specs.Kept.{entries_of}
use Rattle.slotted_classes.proofs.Chasing.{next_within}
use Rattle.slotted_classes.proofs.KeptLists.{entry_at-of}
use Rattle.slotted_classes.proofs.StoredFinds.{stored-finds}
use Rattle.slotted_rebuilding.proofs.ProofsOfFinds.{next-class_of}
use Rattle.slotted_rebuilding.proofs.unions.shortening.leads_at_once.Goals as goal

pub entry-requires-2 : goal.entry-requires-2
entry-requires-2 g c =
    let k = c.args.store.now in
    subst (λ j. j < length k.classes) (sym (next-class_of k c.args.id c.entry.result.now c.entry.ensures))
    (next_within k (stored-finds k c.requires.good) c.args.id c.requires.within)

pub returns : goal.returns
returns g c =
    let k = c.args.store.now in
    let found = entries_of k in
    let next = c.entry.result.now.id.0 in
    let leads : next ≡ (entry_at found c.args.id).class = next-class_of k c.args.id c.entry.result.now c.entry.ensures ∙ sym (ap (λ (x : Entry). x.class) (entry_at-of k c.args.id)) in
    let class : (entry_at found next).class ≡ c.entry-2.result.now.id.0 = ap (λ (x : Entry). x.class) (entry_at-of k next) ∙ sym (ap (λ (b : Applied). b.0) c.entry-2.ensures) in (
      λ y. subst (IsLive found) leads (class ∙ eqb-true c.entry-2.result.now.id.0 next y),
      λ live. eq-eqb c.entry-2.result.now.id.0 next (sym class ∙ subst (IsLive found) (sym leads) live),
    )
