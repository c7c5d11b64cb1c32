use Rattle.std.proofs.Common.{◌<◌, ◌∙◌, arith, length, sym, subst, refl}
use Rattle.std.proofs.lemmas.Bool.{false≢true}
use Rattle.slotted_nodes.specs.Form.{children}
use Rattle.slotted_model.specs.Classes.{IsFull}
use Rattle.slotted_classes.specs.Kept.{nodes_of}
use Rattle.slotted_proofs.specs.Equations.{to_applied}
use Rattle.slotted_classes.proofs.ChildIds.{child_is, child_next, length-ids}
use Rattle.slotted_operations.proofs.adding.has_full_children.Goals as goal

pub returns-then-not-is_full : goal.returns-then-not-is_full
returns-then-not-is_full g c =
    let f = g.L.LanguageChildren.form c.args.node.now in
    let a = to_applied c.applied_id.result.now in
    let l : c.loop-k.k < length (children f.tree) = omega (arith, c.loop-k-test.true, c.applied_id_count-k-end.ensures) in
    let e = child_is f c.loop-k.k a a l c.applied_id.ensures.id c.applied_id.ensures.keys c.applied_id.ensures.names in (
      λ y. absurd (false≢true y),
      λ h. absurd (false≢true (sym c.if-not-is_full.true ∙ c.is_full.ensures.1 (subst (IsFull (nodes_of c.args.store.now)) (sym e) (h c.loop-k.k a (omega (arith, l, length-ids f.tree f.names)))))),
    )

pub loop-k-preserved : goal.loop-k-preserved
loop-k-preserved g c =
    let f = g.L.LanguageChildren.form c.args.node.now in
    let l : c.loop-k.k < length (children f.tree) = omega (arith, c.loop-k-test.true, c.applied_id_count-k-end.ensures) in
    child_next (IsFull (nodes_of c.args.store.now)) f c.loop-k.k (to_applied c.applied_id.result.now) l c.applied_id.ensures.id c.applied_id.ensures.keys c.applied_id.ensures.names
    (c.is_full.ensures.0 c.if-not-is_full.false) c.loop-k.invariant

pub returns : goal.returns
returns g c =
    let f = g.L.LanguageChildren.form c.args.node.now in
    (λ y. λ j d l. c.loop-k.invariant j d (omega (arith, l, length-ids f.tree f.names, c.loop-k-test.false, c.applied_id_count-k-end.ensures)), λ h. refl)
