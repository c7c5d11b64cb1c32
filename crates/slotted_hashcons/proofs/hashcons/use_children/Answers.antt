-- One child after another.
use Rattle.std.proofs.Common.{◌<◌, ◌+◌, ◌∙◌, ◌++◌, ◌∷◌, [], length, set, ap, sym, subst, slice_index_or, arith}
use Rattle.slotted_nodes.specs.Form.{children, child_id}
use Rattle.slotted_hashcons.specs.Over.{HasChild}
use Rattle.slotted_hashcons.proofs.KeyChildren.{child-there}
use Rattle.slotted_hashcons.proofs.Together.{UsedSoFar, used-next, used-past, used-all}
use Rattle.slotted_hashcons.proofs.hashcons.use_children.Goals.{then-not-is_over+in_ok-add, else-not-is_over}
use Rattle.slotted_hashcons.proofs.hashcons.use_children.Goals as goal

pub add-requires : goal.add-requires
add-requires g c =
    let f = g.L.LanguageChildren.form c.args.node.now in
    let lt : c.loop-k.k < length (children f.tree) = omega (arith, c.loop-k-test.true, c.applied_id_count-k-end.ensures) in
    let below : child_id f c.loop-k.k < length c.args.usages.now = c.requires.below (child_id f c.loop-k.k) (child-there f c.loop-k.k lt) in
    omega (arith, below, c.loop-k.invariant.more.lists, c.applied_id.ensures.id)

pub loop-k-preserved : goal.loop-k-preserved
loop-k-preserved g c =
    let f = g.L.LanguageChildren.form c.args.node.now in
    let us = c.args.usages.now in
    let i = c.args.source in
    let k = c.loop-k.k in
    let lt : k < length (children f.tree) = omega (arith, c.loop-k-test.true, c.applied_id_count-k-end.ensures) in
    let below : child_id f k < length us = c.requires.below (child_id f k) (child-there f k lt) in
    elim c.if-not-is_over.branch [
      | then-not-is_over+in_ok-add w ↦ subst (λ vs. UsedSoFar us vs f i (k + 1)) (sym w.usages-is)
          (used-next us f i c.loop-k.usages w.add.new.self k c.loop-k.invariant
          (omega (arith, below, c.loop-k.invariant.more.lists))
          (w.in_ok-add.ensures.ok ∙ ap (λ d. set c.loop-k.usages d (slice_index_or c.loop-k.usages d [] ++ i ∷ [])) c.applied_id.ensures.id))
      | else-not-is_over w ↦ subst (λ vs. UsedSoFar us vs f i (k + 1)) (sym w.usages-is)
          (used-past us f i c.loop-k.usages k c.loop-k.invariant
          (c.requires.used (child_id f k) (subst (HasChild c.args.nodes.now i) c.applied_id.ensures.id (c.is_over.ensures.0 w.if-not-is_over.false))))
    ]

pub returns-clause-ok : goal.returns-clause-ok
returns-clause-ok g c =
    used-all c.args.usages.now (g.L.LanguageChildren.form c.args.node.now) c.args.source c.loop-k.usages c.loop-k.k c.loop-k.invariant
    (omega (arith, c.loop-k-test.false, c.applied_id_count-k-end.ensures))
