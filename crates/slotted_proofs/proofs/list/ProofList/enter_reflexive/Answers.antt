use Rattle.std.proofs.Common.{subst}
use Rattle.std.specs.Prelude.{IfOk, None}
use Rattle.slotted_model.specs.Applied.{keys}
use Rattle.slotted_model.specs.ProofList.{reflexive}
use Rattle.slotted_proofs.specs.Equations.{to_applied, reflexive_statement}
use Rattle.slotted_proofs.specs.Entries.{Enters}
use Rattle.slotted_proofs.proofs.Written.{stated, own_sides}
use Rattle.slotted_proofs.proofs.list.ProofList.enter_reflexive.Goals as goal

pub enter-requires : goal.enter-requires
enter-requires c =
    let e = c.in_ok-equation.equation in
    own_sides (reflexive_statement c.args.a.now.id.0 (keys c.args.a.now.m)) (to_applied e.l) (to_applied e.r) c.in_ok-equation.ensures.ok

pub returns-clause-ok : goal.returns-clause-ok
returns-clause-ok c =
    let e = c.in_ok-equation.equation in
    let is = stated (reflexive_statement c.args.a.now.id.0 (keys c.args.a.now.m)) (to_applied e.l) (to_applied e.r) c.in_ok-equation.ensures.ok in
    subst (λ s. IfOk c.enter.result (Enters c.args.self.now c.enter.new.self (record { statement = s; step = reflexive; text = None }))) is c.enter.ensures.ok
