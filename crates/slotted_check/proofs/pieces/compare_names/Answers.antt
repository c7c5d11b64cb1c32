use Rattle.std.proofs.Common.{◌≡◌, ◌+◌, ◌-◌, ◌<◌, ◌≤◌, ◌∙◌, ap, refl, arith}
use Rattle.slotted_check.proofs.Lifted.{lifts-below, lifts-above}
use Rattle.slotted_check.proofs.pieces.compare_names.Goals as goal

pub returns-then-a-b-clause-some : goal.returns-then-a-b-clause-some
returns-then-a-b-clause-some c =
    let lt : c.args.a < c.args.depth = omega arith in
    let e : c.args.a ≡ c.args.b = omega arith in
    (refl, λ f a. lifts-below c.args.depth f c.args.a lt ∙ e)

pub returns-then-branch-clause-some : goal.returns-then-branch-clause-some
returns-then-branch-clause-some c =
    let le : c.args.depth ≤ c.args.a = omega arith in
    let e : c.args.depth + (c.args.b - c.args.depth) ≡ c.args.b = omega arith in
    (refl, λ f a. lifts-above c.args.depth f c.args.a le ∙ (ap (λ n. c.args.depth + n) (a _ _ (c.in_ok-join.ensures.joined c.if-branch.true)) ∙ e))
