use Rattle.std.proofs.Common.{◌≡◌, IfOk, ap, subst}
use Rattle.slotted_model.specs.Correspondence.{composite, same_names}
use Rattle.slotted_proofs.proofs.numbering.shared_over.Goals as goal

pub returns-clause-ok : goal.returns-clause-ok
returns-clause-ok c =
    subst (λ x. IfOk c.sent_along.result (λ m. m ≡ x))
    (ap (λ m. composite m (same_names c.args.next.now c.args.last.now)) c.in_ok-shared.ensures.ok)
    c.sent_along.ensures.ok
