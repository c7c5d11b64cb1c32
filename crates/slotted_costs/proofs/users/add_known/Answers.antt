use Rattle.std.proofs.Common.{[], ◌∷◌, sym, subst, arith}
use Rattle.std.proofs.lemmas.Result.{on_ok_weaker}
use Rattle.slotted_costs.specs.Counts.{UsesMore}
use Rattle.slotted_costs.proofs.UserLists.{uses-past, uses-one}
use Rattle.slotted_costs.proofs.users.add_known.Goals as goal

pub returns-then-class-classes-clause-ok : goal.returns-then-class-classes-clause-ok
returns-then-class-classes-clause-ok c = uses-past c.args.source c.args.users.now c.args.class (omega (arith, c.requires, c.if-class-classes.true))

pub returns-clause-ok : goal.returns-clause-ok
returns-clause-ok c =
    on_ok_weaker c.add.result (λ e. subst (λ w. UsesMore (c.args.class ∷ []) c.args.source c.args.users.now w) (sym e)
    (uses-one c.args.source c.args.users.now c.args.class (omega (arith, c.requires, c.if-class-classes.false)))) c.add.ensures.ok
