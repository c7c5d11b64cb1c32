use Rattle.std.proofs.Common.{◌<◌, ◌+◌, length, subst, sym, arith, take}
use Rattle.std.proofs.lemmas.List.{take_all, length-map}
use Rattle.slotted_nodes.specs.Form.{Form, children}
use Rattle.slotted_model.specs.Applied.{renamed_id}
use Rattle.slotted_proofs.specs.Equations.{to_applied}
use Rattle.slotted_classes.specs.ChildIds.{child_ids}
use Rattle.slotted_classes.proofs.ChildIds.{length-ids}
use Rattle.slotted_match_machine.specs.Index.{IsIndexChild, OneByOne}
use Rattle.slotted_matching.specs.KeyRows.{slot_number, numbered_ids}
use Rattle.slotted_matching.proofs.Building.{ids-more}
use Rattle.slotted_matching.proofs.rows.row_children.Goals as goal

pub loop-k-preserved : goal.loop-k-preserved
loop-k-preserved g c =
    let f : Form = g.L.LanguageChildren.form c.args.node.now in
    let h : c.loop-k.k < length (children f.tree) = omega (arith, c.loop-k-test.true, c.applied_id_count-k-end.ensures) in
    subst (OneByOne IsIndexChild (take (c.loop-k.k + 1) (numbered_ids f))) (sym c.in_ok-push.ensures.items)
    (ids-more IsIndexChild f c.loop-k.k (to_applied c.applied_id.result.now) c.loop-k.children.items c.in_ok-child.child h
    c.applied_id.ensures.id c.applied_id.ensures.keys c.applied_id.ensures.names c.loop-k.invariant c.in_ok-child.ensures.ok)

pub returns-clause-ok : goal.returns-clause-ok
returns-clause-ok g c =
    let f : Form = g.L.LanguageChildren.form c.args.node.now in
    subst (λ l. OneByOne IsIndexChild l c.loop-k.children.items)
    (take_all c.loop-k.k (numbered_ids f) (omega (arith, c.loop-k-test.false, c.applied_id_count-k-end.ensures, length-ids f.tree f.names, length-map (child_ids f) (renamed_id slot_number))))
    c.loop-k.invariant
