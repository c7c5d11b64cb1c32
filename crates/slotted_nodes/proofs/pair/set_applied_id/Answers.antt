-- A child of the first field, or one of the second.
use Rattle.std.proofs.Common.{arith}
use Rattle.slotted_nodes.proofs.Pairs.{second_child, with_child_left, with_child_right}
use Rattle.slotted_nodes.proofs.pair.set_applied_id.Goals as goal

pub set_applied_id-requires-else-k-n : goal.set_applied_id-requires-else-k-n
set_applied_id-requires-else-k-n g c =
    let a = g.A.LanguageChildren.form c.args.a.now in
    let b = g.B.LanguageChildren.form c.args.b.now in
    second_child a b c.applied_id_count-n.result c.args.k c.applied_id_count-n.ensures c.if-k-n.false c.requires

pub returns-then-k-n : goal.returns-then-k-n
returns-then-k-n g c =
    let a = g.A.LanguageChildren.form c.args.a.now in
    let b = g.B.LanguageChildren.form c.args.b.now in
    let fits = g.met.A.LanguageChildren.fits c.args.a.now in
    let e = c.applied_id_count-n.ensures in
    rw c.set_applied_id.ensures (with_child_left a b fits c.args.k _ _ _ (omega (arith, c.if-k-n.true, e)))

pub returns-else-k-n : goal.returns-else-k-n
returns-else-k-n g c =
    let a = g.A.LanguageChildren.form c.args.a.now in
    let b = g.B.LanguageChildren.form c.args.b.now in
    let fits = g.met.A.LanguageChildren.fits c.args.a.now in
    let e = c.applied_id_count-n.ensures in
    rw (c.set_applied_id-else-k-n.ensures, e)
    (with_child_right a b fits c.args.k _ _ _ (omega (arith, c.if-k-n.false, e)))
