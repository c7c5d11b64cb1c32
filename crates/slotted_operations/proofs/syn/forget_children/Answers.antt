use Rattle.std.proofs.Common.{arith, sym, subst}
use Rattle.slotted_nodes.specs.Form.{Form}
use Rattle.slotted_languages.specs.Beside.{IsBeside}
use Rattle.slotted_proofs.specs.Equations.{to_applied}
use Rattle.slotted_operations.proofs.Ids.CanonicalTerms.{beside-itself, beside-step}
use Rattle.slotted_operations.proofs.syn.forget_children.Goals as goal

pub loop-k-init : goal.loop-k-init
loop-k-init g c = beside-itself (g.L.LanguageChildren.form c.args.node.now)

pub set_applied_id-requires : goal.set_applied_id-requires
set_applied_id-requires g c = omega (arith, c.loop-k.invariant.count, c.loop-k-test.true)

pub loop-k-preserved : goal.loop-k-preserved
loop-k-preserved g c =
    let f = g.L.LanguageChildren.form c.args.node.now in
    subst (λ (h : Form). IsBeside f h) (sym c.set_applied_id.ensures)
    (beside-step f (g.L.LanguageChildren.form c.loop-k.node) c.loop-k.k (to_applied c.null.result) (g.met.L.LanguageChildren.fits c.loop-k.node) (omega (arith, c.loop-k-test.true)) c.loop-k.invariant)
