use Rattle.std.proofs.Common.{◌≡◌, ◌+◌, ◌<◌, ◌≤◌, sym, ◌∙◌, ap, refl, arith}
use Rattle.slotted_check.proofs.Lifted.{lifts-below, lifts-above}
use Rattle.slotted_check.proofs.pieces.meet_names.Goals as goal

pub returns-then-a-b-clause-some : goal.returns-then-a-b-clause-some
returns-then-a-b-clause-some c =
    let lt : c.args.a < c.args.depth = omega arith in
    let lt' : c.args.b < c.args.depth = omega arith in
    let e : c.args.a ≡ c.args.b = omega arith in
    (refl, λ f g a b. lifts-below c.args.depth f c.args.a lt ∙ (e ∙ sym (lifts-below c.args.depth g c.args.b lt')))

pub returns-then-branch-clause-some : goal.returns-then-branch-clause-some
returns-then-branch-clause-some c =
    let le : c.args.depth ≤ c.args.a = omega arith in
    let le' : c.args.depth ≤ c.args.b = omega arith in (
      refl,
      λ f g a b. lifts-above c.args.depth f c.args.a le ∙ (ap (λ n. c.args.depth + n) (c.in_ok-join_both.ensures.yes c.if-branch.true f g a b)
          ∙ sym (lifts-above c.args.depth g c.args.b le')),
    )
