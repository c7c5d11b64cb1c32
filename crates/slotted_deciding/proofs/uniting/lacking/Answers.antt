use Rattle.std.proofs.Common.{subst}
use Rattle.std.specs.Prelude.{IfSome, Option}
use Rattle.slotted_proofs.specs.Equations.{to_applied}
use Rattle.slotted_deciding.specs.Settling.{IsExchanged}
use Rattle.slotted_deciding.proofs.DecidedVariants.{none-lacks}
use Rattle.slotted_deciding.proofs.uniting.lacking.Goals as goal

pub returns-clause-ok : goal.returns-clause-ok
returns-clause-ok g c decided =
    let h = c.args.graph.now in
    let a = to_applied c.args.missing.now.id in
    let n = g.L.LanguageChildren.form c.in-Some.node in
    let e : IsExchanged h a n = subst (λ (o : Option _). IfSome o (λ m. IsExchanged h a (g.L.LanguageChildren.form m))) c.in-Some.is c.in_ok-node.ensures.ok in
    let valid = (c.is_valid_node.ensures.0 c.if-not-is_valid_node.false).1 in
    none-lacks h a n e (g.met.L.LanguageChildren.fits c.in-Some.node) valid (c.in_ok-is_still_missing.ensures.yes c.if-not-branch.false e.id_valid valid) decided
