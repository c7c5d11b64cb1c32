use Rattle.std.proofs.Common.{◌<◌, ◌≤◌, ◌∙◌, ap, sym, refl, arith, length}
use Rattle.slotted_nodes.specs.Form.{children, scopes}
use Rattle.slotted_nodes.specs.Joined.{child_fits}
use Rattle.slotted_nodes.specs.SmallForms.{small_place}
use Rattle.slotted_outlines.specs.Seen.{lefts, rights, opened}
use Rattle.slotted_outlines.proofs.Matched.{above-within, above-past}
use Rattle.slotted_outlines.proofs.outlines.Outlines.push_above.Goals as goal

pub push_open-requires-clause-within : goal.push_open-requires-clause-within
push_open-requires-clause-within g c =
    let f = g.L.LanguageChildren.form c.args.self.now.one in
    let h : c.args.k < length (children f.tree) = omega (arith, c.applied_id_count.ensures) in
    omega (arith, c.applied_id_place.ensures, child_fits f.tree c.args.k h, g.met.L.LanguageChildren.fits c.args.self.now.one)

pub returns-then-k-applied_id_count-clause-left : goal.returns-then-k-applied_id_count-clause-left
returns-then-k-applied_id_count-clause-left g c =
    let f = g.L.LanguageChildren.form c.args.self.now.one in
    let h : c.args.k < length (children f.tree) = omega (arith, c.applied_id_count.ensures) in
    let bs = lefts c.args.binders.now.items in
    let place = c.applied_id_place.ensures ∙ small_place f c.args.k (g.met.L.LanguageChildren.fits c.args.self.now.one) c.requires.small h in
    rw (ap (λ p. opened p (scopes f.tree) f.names bs) place ∙ sym (above-within f.tree f.tree f.names bs c.args.k c.requires.outline refl h)) at c.push_open.ensures.left

pub returns-then-k-applied_id_count-clause-right : goal.returns-then-k-applied_id_count-clause-right
returns-then-k-applied_id_count-clause-right g c =
    let f = g.L.LanguageChildren.form c.args.self.now.one in
    let n = g.L.LanguageChildren.form c.args.self.now.two in
    let h : c.args.k < length (children f.tree) = omega (arith, c.applied_id_count.ensures) in
    let bs = rights c.args.binders.now.items in
    let place = c.applied_id_place.ensures ∙ small_place f c.args.k (g.met.L.LanguageChildren.fits c.args.self.now.one) c.requires.small h in
    rw (ap (λ p. opened p (scopes f.tree) n.names bs) place ∙ sym (above-within f.tree n.tree n.names bs c.args.k c.requires.outline c.requires.same h)) at c.push_open.ensures.right

pub returns-else-k-applied_id_count-clause-left : goal.returns-else-k-applied_id_count-clause-left
returns-else-k-applied_id_count-clause-left g c =
    let f = g.L.LanguageChildren.form c.args.self.now.one in
    let h : length (children f.tree) ≤ c.args.k = omega (arith, c.applied_id_count.ensures) in
    sym (above-past f.tree f.tree f.names (lefts c.args.binders.now.items) c.args.k c.requires.outline refl h)

pub returns-else-k-applied_id_count-clause-right : goal.returns-else-k-applied_id_count-clause-right
returns-else-k-applied_id_count-clause-right g c =
    let f = g.L.LanguageChildren.form c.args.self.now.one in
    let n = g.L.LanguageChildren.form c.args.self.now.two in
    let h : length (children f.tree) ≤ c.args.k = omega (arith, c.applied_id_count.ensures) in
    sym (above-past f.tree n.tree n.names (rights c.args.binders.now.items) c.args.k c.requires.outline c.requires.same h)
