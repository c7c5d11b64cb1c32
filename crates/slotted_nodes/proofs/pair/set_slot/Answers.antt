-- A place of the first field, or one of the second.
use Rattle.std.proofs.Common.{arith}
use Rattle.slotted_nodes.proofs.Pairs.{first_places, names_left, names_right}
use Rattle.slotted_nodes.proofs.pair.set_slot.Goals as goal

pub returns-then-i-n : goal.returns-then-i-n
returns-then-i-n g c =
    let a = g.A.LanguageChildren.form c.args.a.now in
    let b = g.B.LanguageChildren.form c.args.b.now in
    let fits = g.met.A.LanguageChildren.fits c.args.a.now in
    rw c.set_slot.ensures (names_left a b fits c.args.i c.args.s (omega (arith, c.if-i-n.true, c.slot_count-n.ensures)))

pub returns-else-i-n : goal.returns-else-i-n
returns-else-i-n g c =
    let a = g.A.LanguageChildren.form c.args.a.now in
    let b = g.B.LanguageChildren.form c.args.b.now in
    let fits = g.met.A.LanguageChildren.fits c.args.a.now in
    let e = first_places a b c.slot_count-n.result c.args.i c.slot_count-n.ensures c.if-i-n.false c.requires in
    rw (c.set_slot-else-i-n.ensures, e)
    (names_right a b fits c.args.i c.args.s (omega (arith, c.if-i-n.false, e)))
