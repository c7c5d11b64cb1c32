use Rattle.std.proofs.Common.{sym, subst}
use Rattle.slotted_hashcons.specs.FiledRows.{HasChildrenBelow}
use Rattle.slotted_data.proofs.TakenData.{key-within}
use Rattle.slotted_data.proofs.lowering.value_made.Goals as goal

pub child_data-requires-clause-within : goal.child_data-requires-clause-within
child_data-requires-clause-within g c =
    let f = g.L.LanguageChildren.form c.in-Some.key.now in
    key-within c.args.store.now c.args.nodes.now c.requires.ready.rest c.args.source f c.in-Some.field-0-1.now (sym c.in-Some.ensures)

pub child_data-requires-clause-there : goal.child_data-requires-clause-there
child_data-requires-clause-there g c =
    let f = g.L.LanguageChildren.form c.in-Some.key.now in
    subst (λ n. HasChildrenBelow n f) (sym c.requires.ready.count)
    (key-within c.args.store.now c.args.nodes.now c.requires.ready.rest c.args.source f c.in-Some.field-0-1.now (sym c.in-Some.ensures))
