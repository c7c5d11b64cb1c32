use Rattle.std.proofs.Common.{◌≡◌, ◌<◌, length, Some, sym, ◌∙◌, ap, subst, arith}
use Rattle.slotted_nodes.specs.Form.{children, child_id}
use Rattle.slotted_classes.specs.Kept.{entries_of}
use Rattle.slotted_hashcons.proofs.KeyChildren.{child-there}
use Rattle.slotted_data.specs.Made.{source_class}
use Rattle.slotted_data.proofs.NewData.{first-next, first-all}
use Rattle.slotted_data.proofs.making.child_data.Goals as goal

pub class_with_data-class-requires-clause-within : goal.class_with_data-class-requires-clause-within
class_with_data-class-requires-clause-within g c =
    let f = g.L.LanguageChildren.form c.args.node.now in
    let within : c.loop-k.k < length (children f.tree) = omega (arith, c.loop-k-test.true, c.applied_id_count-k-end.ensures) in
    subst (λ i. i < length c.args.store.now.classes) (sym c.applied_id.ensures.id) (c.requires.within (child_id f c.loop-k.k) (child-there f c.loop-k.k within))

pub value-requires : goal.value-requires
value-requires g c =
    let f = g.L.LanguageChildren.form c.args.node.now in
    let within : c.loop-k.k < length (children f.tree) = omega (arith, c.loop-k-test.true, c.applied_id_count-k-end.ensures) in
    let below = c.requires.there (child_id f c.loop-k.k) (child-there f c.loop-k.k within) in
    let known = c.class_with_data-class.ensures.within (omega (arith, below, c.applied_id.ensures.id, c.count.ensures.count)) in
    omega (arith, known, c.count.ensures.count)

pub loop-k-preserved : goal.loop-k-preserved
loop-k-preserved g c =
    let f = g.L.LanguageChildren.form c.args.node.now in
    let k = c.args.store.now in
    let within : c.loop-k.k < length (children f.tree) = omega (arith, c.loop-k-test.true, c.applied_id_count-k-end.ensures) in
    let class : c.class_with_data-class.result ≡ source_class (entries_of k) (length c.args.data.now.values) (child_id f c.loop-k.k) =
    c.class_with_data-class.ensures.class ∙ (λ i. source_class (entries_of k) (c.count.ensures.count i) (c.applied_id.ensures.id i)) in
    record {
      values = first-next k c.args.data.now.values f c.loop-k.k c.loop-k.each.items c.push.new.self.items c.class_with_data-class.result c.in_ok-copy.field-0
          c.loop-k.invariant.values within class (c.value.ensures ∙ ap Some (sym c.in_ok-copy.ensures.ok)) c.in_ok-push.ensures.items;
      count = let e = c.in_ok-push.ensures.len in let n = c.loop-k.invariant.count in omega (arith, e, n);
    }

pub returns-clause-ok : goal.returns-clause-ok
returns-clause-ok g c =
    let f = g.L.LanguageChildren.form c.args.node.now in
    first-all c.args.store.now c.args.data.now.values f c.loop-k.k c.loop-k.each.items c.loop-k.invariant.values (omega (arith, c.loop-k-test.false, c.applied_id_count-k-end.ensures))
