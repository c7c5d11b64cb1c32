-- A child of the first field, or one of the second.
use Rattle.std.proofs.Common.{arith}
use Rattle.slotted_nodes.proofs.Pairs.{length_children-join, child_id_left, child_id_right, child_keys_left, child_keys_right, child_names_left, child_names_right}
use Rattle.slotted_nodes.proofs.pair.get_applied_id.Goals as goal

pub returns-then-k-n-clause-id : goal.returns-then-k-n-clause-id
returns-then-k-n-clause-id g c =
    let a = g.A.LanguageChildren.form c.args.a.now in
    let b = g.B.LanguageChildren.form c.args.b.now in
    let fits = g.met.A.LanguageChildren.fits c.args.a.now in
    let e = c.applied_id_count-n.ensures in
    rw (child_id_left a b fits c.args.k (omega (arith, c.if-k-n.true, e))) c.get_applied_id.ensures.id

pub returns-then-k-n-clause-keys : goal.returns-then-k-n-clause-keys
returns-then-k-n-clause-keys g c =
    let a = g.A.LanguageChildren.form c.args.a.now in
    let b = g.B.LanguageChildren.form c.args.b.now in
    let fits = g.met.A.LanguageChildren.fits c.args.a.now in
    let e = c.applied_id_count-n.ensures in
    rw (child_keys_left a b fits c.args.k (omega (arith, c.if-k-n.true, e))) c.get_applied_id.ensures.keys

pub returns-then-k-n-clause-names : goal.returns-then-k-n-clause-names
returns-then-k-n-clause-names g c =
    let a = g.A.LanguageChildren.form c.args.a.now in
    let b = g.B.LanguageChildren.form c.args.b.now in
    let fits = g.met.A.LanguageChildren.fits c.args.a.now in
    let e = c.applied_id_count-n.ensures in
    rw (child_names_left a b fits c.args.k (omega (arith, c.if-k-n.true, e))) c.get_applied_id.ensures.names

pub returns-else-k-n-clause-id : goal.returns-else-k-n-clause-id
returns-else-k-n-clause-id g c =
    let a = g.A.LanguageChildren.form c.args.a.now in
    let b = g.B.LanguageChildren.form c.args.b.now in
    let fits = g.met.A.LanguageChildren.fits c.args.a.now in
    let e = c.applied_id_count-n.ensures in
    rw (child_id_right a b fits c.args.k (omega (arith, c.if-k-n.false, e)), ← e) c.get_applied_id-else-k-n.ensures.id

pub returns-else-k-n-clause-keys : goal.returns-else-k-n-clause-keys
returns-else-k-n-clause-keys g c =
    let a = g.A.LanguageChildren.form c.args.a.now in
    let b = g.B.LanguageChildren.form c.args.b.now in
    let fits = g.met.A.LanguageChildren.fits c.args.a.now in
    let e = c.applied_id_count-n.ensures in
    rw (child_keys_right a b fits c.args.k (omega (arith, c.if-k-n.false, e)), ← e) c.get_applied_id-else-k-n.ensures.keys

pub returns-else-k-n-clause-names : goal.returns-else-k-n-clause-names
returns-else-k-n-clause-names g c =
    let a = g.A.LanguageChildren.form c.args.a.now in
    let b = g.B.LanguageChildren.form c.args.b.now in
    let fits = g.met.A.LanguageChildren.fits c.args.a.now in
    let e = c.applied_id_count-n.ensures in
    rw (child_names_right a b fits c.args.k (omega (arith, c.if-k-n.false, e)), ← e) c.get_applied_id-else-k-n.ensures.names

pub returns-then-k-n-clause-some : goal.returns-then-k-n-clause-some
returns-then-k-n-clause-some g c =
    let n = length_children-join (g.A.LanguageChildren.form c.args.a.now) (g.B.LanguageChildren.form c.args.b.now) in
    let e = c.applied_id_count-n.ensures in
    (λ s. omega (arith, n, e, c.if-k-n.true), λ h. c.get_applied_id.ensures.some.1 (omega (arith, e, c.if-k-n.true)))

pub returns-else-k-n-clause-some : goal.returns-else-k-n-clause-some
returns-else-k-n-clause-some g c =
    let n = length_children-join (g.A.LanguageChildren.form c.args.a.now) (g.B.LanguageChildren.form c.args.b.now) in
    let e = c.applied_id_count-n.ensures in (
      λ s. omega (arith, n, e, c.if-k-n.false, c.get_applied_id-else-k-n.ensures.some.0 s),
      λ h. c.get_applied_id-else-k-n.ensures.some.1 (omega (arith, n, e, c.if-k-n.false, h)),
    )
