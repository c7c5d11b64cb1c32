use Rattle.std.proofs.Common.{length, ◌∙◌, ap, sym, arith}
use Rattle.slotted_slots.specs.Maps.{keys, values}
use Rattle.slotted_nodes.specs.Form.{with_child, children}
use Rattle.slotted_languages.proofs.Outlines.{first_form-none, first_form-more, first_form-all, length_children-outlined_first}
use Rattle.slotted_languages.proofs.outline.outline.Goals as goal

pub loop-k-init : goal.loop-k-init
loop-k-init g c =
    let f = g.L.LanguageChildren.form c.args.node.now in
    ap g.L.LanguageChildren.form c.in_ok-outline.ensures.ok ∙ sym (first_form-none c.args.name f (g.met.L.LanguageChildren.fits c.args.node.now))

pub set_applied_id-requires : goal.set_applied_id-requires
set_applied_id-requires g c =
    let f = g.L.LanguageChildren.form c.args.node.now in
    let e = ap (λ h. length (children h.tree)) c.loop-k.invariant in
    omega (arith, e, length_children-outlined_first f.tree c.loop-k.k, c.loop-k-test.true, c.applied_id_count-k-end.ensures)

pub loop-k-preserved : goal.loop-k-preserved
loop-k-preserved g c =
    let f = g.L.LanguageChildren.form c.args.node.now in
    let a = c.in_ok-only_child.ensures.ok in
    c.set_applied_id.ensures
    ∙ ((λ j. with_child (c.loop-k.invariant j) c.loop-k.k (a.0 j) (keys (a.1 j)) (values (a.1 j)))
    ∙ first_form-more c.args.name f c.loop-k.k (omega (arith, c.loop-k-test.true, c.applied_id_count-k-end.ensures)) (g.met.L.LanguageChildren.fits c.args.node.now))

pub returns-clause-ok : goal.returns-clause-ok
returns-clause-ok g c =
    let f = g.L.LanguageChildren.form c.args.node.now in
    c.loop-k.invariant ∙ first_form-all c.args.name f c.loop-k.k (omega (arith, c.loop-k-test.false, c.applied_id_count-k-end.ensures)) (g.met.L.LanguageChildren.fits c.args.node.now)
