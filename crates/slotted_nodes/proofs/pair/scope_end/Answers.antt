-- The scope of a binder of the first field, or of one of the second.
use Rattle.std.proofs.Common.{arith, Some, None}
use Rattle.slotted_nodes.proofs.Pairs.{first_places, scope_end_left, scope_end_right}
use Rattle.slotted_nodes.proofs.pair.scope_end.Goals as goal

pub returns-then-i-n : goal.returns-then-i-n
returns-then-i-n g c =
    let a = g.A.LanguageChildren.form c.args.a.now in
    let b = g.B.LanguageChildren.form c.args.b.now in
    let fits = g.met.A.LanguageChildren.fits c.args.a.now in
    rw (scope_end_left a b fits c.args.i (omega (arith, c.if-i-n.true, c.slot_count-n.ensures))) c.scope_end.ensures

pub returns-in-Some : goal.returns-in-Some
returns-in-Some g c =
    let a = g.A.LanguageChildren.form c.args.a.now in
    let b = g.B.LanguageChildren.form c.args.b.now in
    let fits = g.met.A.LanguageChildren.fits c.args.a.now in
    let e = first_places a b c.slot_count-n.result c.args.i c.slot_count-n.ensures c.if-i-n.false c.requires in
    rw c.saturating_add.ensures
    (scope_end_right a b fits c.slot_count-n.result c.args.i (Some c.in-Some.end) e c.if-i-n.false c.in-Some.ensures)

pub returns-in-None : goal.returns-in-None
returns-in-None g c =
    let a = g.A.LanguageChildren.form c.args.a.now in
    let b = g.B.LanguageChildren.form c.args.b.now in
    let fits = g.met.A.LanguageChildren.fits c.args.a.now in
    let e = first_places a b c.slot_count-n.result c.args.i c.slot_count-n.ensures c.if-i-n.false c.requires in
    scope_end_right a b fits c.slot_count-n.result c.args.i None e c.if-i-n.false c.in-None.ensures
