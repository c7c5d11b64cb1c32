use Rattle.slotted_check.specs.Lines.{IsProvedClaim}
use Rattle.slotted_check.proofs.LineSteps.{by-renaming}
use Rattle.slotted_check.proofs.Named.{claim-derived}
use Rattle.slotted_check.proofs.following.judge_proof.Goals as goal

pub returns-then-branch : goal.returns-then-branch
returns-then-branch c =
    let p : IsProvedClaim c.args.given.now c.args.claim.now =
    λ E g. by-renaming E c.args.lines.now _ _ (c.in_ok-place.ensures.none c.in_default.is E g) (c.in_ok-ends_in.ensures c.if-branch.true) in
    record {
      checked = λ j. p;
      derived = λ j. claim-derived c.args.given.now c.args.claim.now p;
    }
