use Rattle.slotted_check.proofs.WalkSteps.{passes-piece, passes-part, some-map, ok-map}
use Rattle.slotted_check.specs.Parts.{SaysLine}
use Rattle.slotted_check.proofs.steps.pass.Goals as goal

pub returns-then-is_empty : goal.returns-then-is_empty
returns-then-is_empty c = some-map c.pass_piece.result (λ p h. passes-piece (SaysLine c.args.lines.now) _ _ _ _ h) c.pass_piece.ensures

pub returns-in-Some : goal.returns-in-Some
returns-in-Some c =
    let among = rw c.in-Some.is at c.line_at.ensures in
    ok-map c.pass_line.result (λ o p. some-map o (λ q h. passes-part c.args.lines.now c.in-Some.line.now _ _ _ _ among h) p) c.pass_line.ensures
