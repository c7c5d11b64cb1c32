use Rattle.slotted_check.proofs.LineSteps.{line-says}
use Rattle.slotted_check.proofs.WalkSteps.{ok-map}
use Rattle.slotted_check.proofs.following.is_renamed.Goals as goal

pub returns-in-Some : goal.returns-in-Some
returns-in-Some c =
    let known = rw c.in-Some.is at c.line_at.ensures in
    ok-map c.says.result (λ b s t. line-says c.args.lines.now c.in-Some.line.now known c.deref.ensures.value c.deref-in-Some.ensures.value (s t)) c.says.ensures
