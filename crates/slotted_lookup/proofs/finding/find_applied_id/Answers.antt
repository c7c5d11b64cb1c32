use Rattle.std.proofs.Common.{sym, subst}
use Rattle.slotted_proofs.specs.Equations.{to_applied}
use Rattle.slotted_lookup.specs.LookUp.{IsFoundFor}
use Rattle.slotted_lookup.proofs.Finds.{found-for}
use Rattle.slotted_lookup.proofs.finding.find_applied_id.Goals as goal

pub returns-clause-found : goal.returns-clause-found
returns-clause-found g c =
    let k = c.args.store.now in
    subst (IsFoundFor k (to_applied c.args.a.now)) (sym c.in_ok-found.ensures.ok) (found-for k c.requires.good (to_applied c.args.a.now) c.requires.findable)
