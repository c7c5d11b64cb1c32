use Rattle.std.proofs.Common.{◌<◌, length, sym, subst, arith}
use Rattle.slotted_check.specs.Lines.{EachLine}
use Rattle.slotted_check.proofs.MoreLines.{line-more}
use Rattle.slotted_check.proofs.WalkSteps.{ok-map}
use Rattle.slotted_check.proofs.following.line_follows.Goals as goal

pub returns-in-Some : goal.returns-in-Some
returns-in-Some c =
    let found = rw c.in-Some.is at c.equation_at.ensures in
    let lt : c.args.place < length c.args.lines.now = omega arith in
    ok-map c.step_follows.result (λ b s t E g h.
    line-more E c.args.lines.now c.args.place c.in-Some.goal.now lt found h
    (s t E g (subst (EachLine E) (sym c.split_at.ensures.front) h)))
    c.step_follows.ensures
