use Rattle.std.proofs.Common.{◌∙◌, ap, sym, subst}
use Rattle.slotted_model.specs.Correspondence.{identity}
use Rattle.slotted_classes.specs.Finding.{IsFindable}
use Rattle.slotted_lookup.proofs.Finds.{used-findable}
use Rattle.slotted_lookup.proofs.reports.mk_identity_applied_id.Goals as goal

pub returns-clause-ok : goal.returns-clause-ok
returns-clause-ok g c =
    let e = c.in_ok-identity.ensures.ok ∙ ap identity c.in_ok-slots.ensures.ok in
    λ i. (c.args.class, e i)

pub returns-clause-findable : goal.returns-clause-findable
returns-clause-findable g c =
    let k = c.args.store.now in
    let e = c.in_ok-identity.ensures.ok ∙ ap identity c.in_ok-slots.ensures.ok in
    subst (λ m. IsFindable k (c.args.class, m)) (sym e) (used-findable k c.requires.good c.args.class c.requires.within)
