-- The place of a child of the first field, or of one of the second.
use Rattle.std.proofs.Common.{arith}
use Rattle.slotted_nodes.specs.Joined.{child_place-join_left, child_place-join_right}
use Rattle.slotted_nodes.proofs.Pairs.{second_child}
use Rattle.slotted_nodes.proofs.pair.applied_id_place.Goals as goal

pub applied_id_place-requires-else-k-n : goal.applied_id_place-requires-else-k-n
applied_id_place-requires-else-k-n g c =
    let a = g.A.LanguageChildren.form c.args.a.now in
    let b = g.B.LanguageChildren.form c.args.b.now in
    second_child a b c.applied_id_count-n.result c.args.k c.applied_id_count-n.ensures c.if-k-n.false c.requires

pub returns-then-k-n : goal.returns-then-k-n
returns-then-k-n g c =
    let a = g.A.LanguageChildren.form c.args.a.now in
    let b = g.B.LanguageChildren.form c.args.b.now in
    let e = c.applied_id_count-n.ensures in
    rw (child_place-join_left a.tree b.tree c.args.k (omega (arith, c.if-k-n.true, e))) c.applied_id_place.ensures

pub returns-else-k-n : goal.returns-else-k-n
returns-else-k-n g c =
    let a = g.A.LanguageChildren.form c.args.a.now in
    let b = g.B.LanguageChildren.form c.args.b.now in
    let fits = g.met.A.LanguageChildren.fits c.args.a.now in
    let e = c.applied_id_count-n.ensures in
    let h = rw e at c.applied_id_place-else-k-n.ensures in
    rw (child_place-join_right a.tree b.tree c.args.k (omega (arith, e, c.if-k-n.false)))
    (omega (arith, h, c.slot_count.ensures, fits))
