use Rattle.std.proofs.Common.{◌∙◌, arith, sym}
use Rattle.std.proofs.lemmas.Bool.Decides.{Decides-eqb}
use Rattle.slotted_proofs.specs.Equations.{to_applied}
use Rattle.slotted_classes.proofs.KeptLists.{length-nodes_of}
use Rattle.slotted_operations.proofs.Ids.FullIds.{full-by_count, length-rows}
use Rattle.slotted_operations.proofs.sides.has_all_names.Goals as goal

pub names_of-requires : goal.names_of-requires
names_of-requires g c =
    let k = c.args.store.now in
    omega (arith, c.requires.findable.in_range, length-nodes_of k, length-rows k c.requires.good)

pub returns : goal.returns
returns g c =
    let full = full-by_count c.args.store.now c.requires.good (to_applied c.args.a.now) c.requires.findable c.names_of.result.now c.names_of.ensures in
    let same = Decides-eqb c.len.result c.len-2.result in
    (λ y. full.0 (sym c.len.ensures.len ∙ (same.0 y ∙ c.len-2.ensures.len)), λ f. same.1 (c.len.ensures.len ∙ (full.1 f ∙ sym c.len-2.ensures.len)))
