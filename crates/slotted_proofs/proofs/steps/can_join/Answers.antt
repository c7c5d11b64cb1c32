use Rattle.std.proofs.Common.{◌≡◌, ◌↔◌, ℕ, List, Bool, IsTrue, sym, subst}
use Rattle.std.proofs.lemmas.Result.{IfOk-weaker}
use Rattle.slotted_model.specs.Correspondence.{CanJoin, same_names}
use Rattle.slotted_proofs.specs.Steps.{AreAsked}
use Rattle.slotted_proofs.proofs.Stepping.{goes_over_full, joined_pairs}
use Rattle.slotted_proofs.proofs.steps.can_join.Goals as goal

pub returns-clause-ok : goal.returns-clause-ok
returns-clause-ok c =
    let whole = c.args.whole.now in
    let first = c.args.first.now in
    let second = c.args.second.now in
    let j = joined_pairs whole first second (goes_over_full whole first second c.requires.whole c.requires.first c.requires.second c.requires.over) c.requires.first c.requires.second c.requires.over in
    let asked : c.in_ok-asked.asked ≡ same_names whole.l.m whole.r.m = c.in_ok-asked.ensures.ok in
    let can : Type 0 = CanJoin (same_names whole.l.m whole.r.m) (same_names first.l.m first.r.m) (same_names second.l.m second.r.m) in
    IfOk-weaker c.joins_as.result (λ (yes : Bool). IsTrue yes ↔ AreAsked first second c.in_ok-asked.asked) (λ (yes : Bool). IsTrue yes ↔ can) (λ _ told. (
      λ y. j.1 (subst (λ (m : List (ℕ × ℕ)). AreAsked first second m) asked (told.0 y)),
      λ h. told.1 (subst (λ (m : List (ℕ × ℕ)). AreAsked first second m) (sym asked) (j.0 h)),
    )) c.joins_as.ensures.ok
