use Rattle.std.proofs.Common.{◌≡◌, IfOk, ap, subst}
use Rattle.slotted_model.specs.Correspondence.{composite, same_names}
use Rattle.slotted_proofs.proofs.steps.reached_pairs.Goals as goal

pub returns-clause-ok : goal.returns-clause-ok
returns-clause-ok c =
    let l = c.args.second.now.l.m in
    let r = c.args.second.now.r.m in
    subst (λ x. IfOk c.sent_along-2.result (λ m. m ≡ x))
    (ap (λ m. composite m (same_names l r)) c.in_ok-reached.ensures.ok)
    c.sent_along-2.ensures.ok
