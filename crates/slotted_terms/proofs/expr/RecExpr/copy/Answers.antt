use Rattle.std.proofs.Common.{◌∙◌}
use Rattle.slotted_terms.proofs.expr.RecExpr.copy.Goals as goal

pub assemble_term-requires : goal.assemble_term-requires
assemble_term-requires g c =
    let tree = c.in_ok-nodes.ensures.ok in
    (tree.0, tree.1.ground, tree.2)

pub returns-clause-ok : goal.returns-clause-ok
returns-clause-ok g c =
    let tree = c.in_ok-nodes.ensures.ok in
    c.in_ok-copy.ensures.ok tree.0 tree.1.ground tree.2 ∙ tree.1.value
