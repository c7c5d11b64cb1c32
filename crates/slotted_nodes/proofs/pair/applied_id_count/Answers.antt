-- The children of two fields are as many as those of both.
use Rattle.std.proofs.Common.{arith, length-append}
use Rattle.slotted_nodes.specs.Form.{children}
use Rattle.slotted_nodes.specs.Joined.{children-join}
use Rattle.slotted_nodes.proofs.pair.applied_id_count.Goals as goal

pub returns : goal.returns
returns g c =
    let a = g.A.LanguageChildren.form c.args.a.now in
    let b = g.B.LanguageChildren.form c.args.b.now in
    rw (children-join a.tree b.tree)
    (omega (arith, length-append (children a.tree) (children b.tree), c.applied_id_count.ensures, c.applied_id_count-2.ensures))
