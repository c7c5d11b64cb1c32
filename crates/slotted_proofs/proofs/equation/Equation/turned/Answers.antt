use Rattle.std.proofs.Common.{subst}
use Rattle.std.proofs.lemmas.Result.{IfOk-weaker}
use Rattle.slotted_proofs.specs.declared.equation.Equation.{Equation as Sides}
use Rattle.slotted_proofs.specs.Equations.{to_applied, equality, statement_of, turned_statement, IsWritten}
use Rattle.slotted_proofs.proofs.Written.{equality-turned}
use Rattle.slotted_proofs.proofs.equation.Equation.turned.Goals as goal

pub returns-clause-ok : goal.returns-clause-ok
returns-clause-ok c =
    let e = c.args.self.now in
    let a = to_applied e.l in
    let b = to_applied e.r in
    IfOk-weaker c.numbered.result (IsWritten (equality b a)) (IsWritten (turned_statement (statement_of e)))
    (λ (x : Sides) w. subst (λ s. IsWritten s x) (equality-turned a b (to_applied x.l) (to_applied x.r) c.requires.left c.requires.right w) w)
    c.numbered.ensures.ok
