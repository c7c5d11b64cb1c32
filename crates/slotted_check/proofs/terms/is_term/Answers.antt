use Rattle.slotted_check.proofs.Closings.{term-closed}
use Rattle.slotted_check.proofs.WalkSteps.{ok-map}
use Rattle.slotted_check.proofs.terms.is_term.Goals as goal

pub returns-in-Some : goal.returns-in-Some
returns-in-Some c =
    let begun = rw c.in-Some.is at c.behind_head.ensures in
    ok-map c.closes_node.result (λ b s t. term-closed begun.operator c.in-Some.rest.now c.args.row.now begun.is (s t)) c.closes_node.ensures
