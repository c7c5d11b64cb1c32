-- The child before those that were added.
use Rattle.std.proofs.Common.{◌≡◌, ◌<◌, ◌-◌, ◌++◌, ◌∷◌, [], suc, drop, length, map, reverse, sym, ap, ◌∙◌, arith, append-nil, append_assoc}
use Rattle.std.proofs.Math.Seq.{drop-cons}
use Rattle.std.proofs.lemmas.List.{drop_all, map-append, reverse-append}
use Rattle.slotted_nodes.specs.Form.{Form, children}
use Rattle.slotted_classes.proofs.ChildIds.{child_is, length-ids}
use Rattle.slotted_operations.specs.Nodes.{child_ids, to_applied}
use Rattle.slotted_operations.proofs.stacks.push_children.Goals as goal

pub loop-k-init : goal.loop-k-init
loop-k-init g c =
    let f : Form = g.L.LanguageChildren.form c.args.node.now in
    let old = map to_applied c.args.left.now.items in
    let k = c.applied_id_count-k.result in
    record {
      within = omega (arith, c.applied_id_count-k.ensures);
      added = sym (append-nil old) ∙ ap (λ xs. old ++ reverse xs) (sym (drop_all k (child_ids f) (omega (arith, length-ids f.tree f.names, c.applied_id_count-k.ensures))));
    }

pub loop-k-preserved : goal.loop-k-preserved
loop-k-preserved g c =
    let f : Form = g.L.LanguageChildren.form c.args.node.now in
    let cs = child_ids f in
    let old = map to_applied c.args.left.now.items in
    let k = c.loop-k.k in
    let j = k - 1 in
    let a = to_applied c.applied_id.result.now in
    let next : k ≡ suc j = omega (arith, c.loop-k-test.true) in
    let wide : j < length (children f.tree) = omega (arith, next, c.loop-k.invariant.within) in
    let is = child_is f j a a wide c.applied_id.ensures.id c.applied_id.ensures.keys c.applied_id.ensures.names in
    let opened : drop j cs ≡ a ∷ drop k cs = drop-cons cs j a (omega (arith, wide, length-ids f.tree f.names)) ∙ (λ i. sym is i ∷ drop (sym next i) cs) in
    record {
      within = omega (arith, wide);
      added = ap (map to_applied) c.in_ok-push.ensures.items
          ∙ (map-append to_applied c.loop-k.left.items (c.in_ok-child.child ∷ [])
          ∙ ((λ i. c.loop-k.invariant.added i ++ to_applied (c.in_ok-child.ensures.ok i) ∷ [])
          ∙ (append_assoc old (reverse (drop k cs)) (a ∷ []) ∙ ap (λ xs. old ++ xs) (sym (ap reverse opened ∙ reverse-append (a ∷ []) (drop k cs))))));
    }
