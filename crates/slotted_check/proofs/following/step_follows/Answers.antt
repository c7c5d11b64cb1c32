use Rattle.slotted_check.proofs.LineSteps.{by-renaming, by-reflexivity, by-symmetry, by-transitivity, by-congruence}
use Rattle.slotted_check.proofs.WalkSteps.{ok-map}
use Rattle.slotted_check.proofs.following.step_follows.Goals as goal

pub returns-in-Given : goal.returns-in-Given
returns-in-Given c = ok-map c.is_renamed.result (λ b s t E g h. by-renaming E c.args.given.now _ _ g (s t)) c.is_renamed.ensures

pub returns-in-Reflexivity : goal.returns-in-Reflexivity
returns-in-Reflexivity c = ok-map c.is_reflexive_term.result (λ b s t E g h. by-reflexivity E _ _ (s t).0 (s t).1) c.is_reflexive_term.ensures

pub returns-in-Some : goal.returns-in-Some
returns-in-Some c =
    let among = rw c.in-Some.is at c.line_at.ensures in
    ok-map c.is_symmetric.result (λ b s t E g h. by-symmetry E c.args.lines.now c.in-Some.part.now _ _ h among (s t)) c.is_symmetric.ensures

pub returns-in-Some-Some : goal.returns-in-Some-Some
returns-in-Some-Some c =
    let first = rw c.in-Some-Some.is-0 at c.line_at-in-Transitivity.ensures in
    let second = rw c.in-Some-Some.is-1 at c.line_at-in-Transitivity-2.ensures in
    ok-map c.is_transitive.result (λ b s t E g h. by-transitivity E c.args.lines.now c.in-Some-Some.first.now c.in-Some-Some.second.now _ _ h first second (s t))
    c.is_transitive.ensures

pub returns-in-Congruence : goal.returns-in-Congruence
returns-in-Congruence c = ok-map c.is_congruent_term.result (λ b s t E g h. by-congruence E c.args.lines.now _ _ h (s t).0 (s t).1) c.is_congruent_term.ensures
