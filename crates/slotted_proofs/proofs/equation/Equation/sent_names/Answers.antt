use Rattle.std.proofs.Common.{◌++◌, IfOk, subst}
use Rattle.std.proofs.lemmas.Result.{IfOk-weaker}
use Rattle.slotted_slots.specs.Combining.{IsCompleted}
use Rattle.slotted_slots.specs.Maps.{IsInEither, values}
use Rattle.slotted_slots.specs.Table.{Takes}
use Rattle.slotted_proofs.specs.Fresh.{TakesFor}
use Rattle.slotted_proofs.proofs.SentOn.{takes_names, takes_to_send, lacks_to_send}
use Rattle.slotted_proofs.proofs.equation.Equation.sent_names.Goals as goal

pub returns-clause-completed : goal.returns-clause-completed
returns-clause-completed c =
    subst (λ o. IfOk c.compose_fresh.result (IsCompleted c.args.table.now c.compose_fresh.new.table o c.args.m.now)) c.in_ok-own.ensures.ok c.compose_fresh.ensures.completed

pub returns-clause-taken : goal.returns-clause-taken
returns-clause-taken c =
    let old = c.args.table.now in
    let new = c.compose_fresh.new.table in
    IfOk-weaker c.compose_fresh.result
    (λ names. Takes old new (IsInEither (values names) (values c.in_ok-own.own ++ values c.args.m.now)))
    (λ names. TakesFor old new c.args.self.now c.args.m.now (values names))
    (takes_names old new c.args.self.now c.args.m.now c.in_ok-own.own c.in_ok-own.ensures.ok)
    c.compose_fresh.ensures.taken

pub returns-clause-count : goal.returns-clause-count
returns-clause-count c =
    takes_to_send c.args.table.now c.compose_fresh.new.table c.args.self.now c.args.m.now c.in_ok-own.own c.in_ok-own.ensures.ok c.compose_fresh.ensures.count

pub returns-clause-full : goal.returns-clause-full
returns-clause-full c = λ full.
    lacks_to_send c.args.table.now c.compose_fresh.new.table c.args.self.now c.args.m.now c.in_ok-own.own c.in_ok-own.ensures.ok (c.compose_fresh.ensures.full full)
