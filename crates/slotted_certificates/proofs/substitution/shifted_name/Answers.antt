use Rattle.std.proofs.Common.{◌+◌, arith}
use Rattle.slotted_check.proofs.WalkSteps.{some-map}
use Rattle.slotted_certificates.proofs.Seen.{name-seen, place-seen}
use Rattle.slotted_certificates.proofs.substitution.shifted_name.Goals as goal

pub returns-then-name-depth : goal.returns-then-name-depth
returns-then-name-depth c = place-seen (λ n. n + c.args.by) c.args.depth c.args.name (omega (arith, c.if-name-depth.true))

pub returns-in-Some : goal.returns-in-Some
returns-in-Some c =
    some-map c.sum-in-Some.result (λ n e. name-seen (λ n. n + c.args.by) c.args.depth c.args.name c.in-Some.number n (omega (arith, c.if-name-depth.false)) c.in-Some.ensures e) c.sum-in-Some.ensures
