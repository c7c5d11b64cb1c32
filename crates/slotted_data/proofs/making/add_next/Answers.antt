use Rattle.std.proofs.Common.{length, sym, subst, arith}
use Rattle.slotted_hashcons.specs.FiledRows.{HasChildrenBelow}
use Rattle.slotted_classes.specs.Kept.{node_at}
use Rattle.slotted_data.proofs.NewData.{children-older}
use Rattle.slotted_data.proofs.making.add_next.Goals as goal

pub child_data-requires-clause-within : goal.child_data-requires-clause-within
child_data-requires-clause-within g c =
    let k = c.args.store.now in
    let older : HasChildrenBelow c.count.result (node_at k c.count.result) = children-older k c.requires.canonical c.count.result (omega (arith, c.count.ensures.count, c.requires.within)) in
    let all : HasChildrenBelow (length k.classes) (node_at k c.count.result) = λ i there. let h = older i there in omega (arith, h, c.count.ensures.count, c.requires.within) in
    subst (HasChildrenBelow (length k.classes)) (sym c.node_of-node.ensures) all

pub child_data-requires-clause-there : goal.child_data-requires-clause-there
child_data-requires-clause-there g c =
    let k = c.args.store.now in
    let older : HasChildrenBelow c.count.result (node_at k c.count.result) = children-older k c.requires.canonical c.count.result (omega (arith, c.count.ensures.count, c.requires.within)) in
    let all : HasChildrenBelow (length c.args.data.now.values) (node_at k c.count.result) = λ i there. let h = older i there in omega (arith, h, c.count.ensures.count) in
    subst (HasChildrenBelow (length c.args.data.now.values)) (sym c.node_of-node.ensures) all
