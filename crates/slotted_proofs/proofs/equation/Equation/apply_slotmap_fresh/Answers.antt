-- One completed map, over which each side goes on.
use Rattle.std.proofs.Common.{◌++◌, sym, subst}
use Rattle.std.proofs.lemmas.Result.{IfOk-weaker, err_from_is_err_and, IfOk-from_err}
use Rattle.slotted_theory.specs.FiniteMaps.{IsInjectiveMap}
use Rattle.slotted_slots.specs.Maps.{composed, values}
use Rattle.slotted_model.specs.Applied.{Applied}
use Rattle.slotted_proofs.specs.Fresh.{AreKnownOr, IsSentBy, IsSentOn, TakesFor, side_names}
use Rattle.slotted_proofs.proofs.SentOn.{left_stays, right_stays, known_sent, takes_sent}
use Rattle.slotted_proofs.proofs.Refusals.{same_err, slots_left, memory_short}
use Rattle.slotted_slots.specs.declared.error.Error.TheVariants.{OutOfSlots}
use Rattle.slotted_proofs.proofs.equation.Equation.apply_slotmap_fresh.Goals as goal

pub returns-clause-sent : goal.returns-clause-sent
returns-clause-sent c =
    let names = c.in_ok-names.names in
    IfOk-weaker c.over.result (IsSentBy names c.args.self.now) (IsSentOn c.args.table.now c.sent_names.new.table c.args.m.now c.args.self.now)
    (λ _ sent. record { names = names; completed = c.in_ok-names.ensures.completed; left = sent.left; right = sent.right })
    c.over.ensures.ok

pub returns-clause-left_injective : goal.returns-clause-left_injective
returns-clause-left_injective c = λ stays.
    let names = c.in_ok-names.names in
    IfOk-weaker c.over.result (IsSentBy names c.args.self.now) (λ e. IsInjectiveMap e.l.m) (λ _ sent.
    subst (λ (a : Applied). IsInjectiveMap a.1) (sym sent.left)
    (left_stays c.args.table.now c.sent_names.new.table c.args.self.now c.args.m.now names c.in_ok-names.ensures.completed stays))
    c.over.ensures.ok

pub returns-clause-right_injective : goal.returns-clause-right_injective
returns-clause-right_injective c = λ stays.
    let names = c.in_ok-names.names in
    IfOk-weaker c.over.result (IsSentBy names c.args.self.now) (λ e. IsInjectiveMap e.r.m) (λ _ sent.
    subst (λ (a : Applied). IsInjectiveMap a.1) (sym sent.right)
    (right_stays c.args.table.now c.sent_names.new.table c.args.self.now c.args.m.now names c.in_ok-names.ensures.completed stays))
    c.over.ensures.ok

pub returns-clause-known : goal.returns-clause-known
returns-clause-known c =
    let new = c.sent_names.new.table in
    let names = c.in_ok-names.names in
    IfOk-weaker c.over.result (IsSentBy names c.args.self.now) (λ e. AreKnownOr new (values c.args.m.now) (side_names e)) (λ s sent.
    subst (λ (a : Applied). AreKnownOr new (values c.args.m.now) (values a.1 ++ values s.r.m)) (sym sent.left)
    (subst (λ (a : Applied). AreKnownOr new (values c.args.m.now) (values (composed c.args.self.now.l.m names) ++ values a.1)) (sym sent.right)
    (known_sent c.args.table.now new c.args.self.now c.args.m.now names c.in_ok-names.ensures.completed)))
    c.over.ensures.ok

pub returns-clause-taken : goal.returns-clause-taken
returns-clause-taken c =
    let old = c.args.table.now in
    let new = c.sent_names.new.table in
    let names = c.in_ok-names.names in
    IfOk-weaker c.over.result (IsSentBy names c.args.self.now) (λ e. TakesFor old new c.args.self.now c.args.m.now (side_names e)) (λ s sent.
    subst (λ (a : Applied). TakesFor old new c.args.self.now c.args.m.now (values a.1 ++ values s.r.m)) (sym sent.left)
    (subst (λ (a : Applied). TakesFor old new c.args.self.now c.args.m.now (values (composed c.args.self.now.l.m names) ++ values a.1)) (sym sent.right)
    (takes_sent old new c.args.self.now c.args.m.now names c.in_ok-names.ensures.completed c.in_ok-names.ensures.taken)))
    c.over.ensures.ok

pub returns-clause-count : goal.returns-clause-count
returns-clause-count c = c.sent_names.ensures.count

pub returns-clause-names : goal.returns-clause-names
returns-clause-names c = c.sent_names.ensures.names

pub returns-clause-more : goal.returns-clause-more
returns-clause-more c = c.sent_names.ensures.more

pub returns-clause-full : goal.returns-clause-full
returns-clause-full c = λ e. absurd (slots_left c.over.result c.over.ensures.err e)

pub returns-clause-end : goal.returns-clause-end
returns-clause-end c = λ e. absurd (slots_left c.over.result c.over.ensures.err e)

pub returns-clause-only : goal.returns-clause-only
returns-clause-only c = memory_short c.over.result c.over.ensures.err

pub returns-in_err-names-clause-count : goal.returns-in_err-names-clause-count
returns-in_err-names-clause-count c = c.sent_names.ensures.count

pub returns-in_err-names-clause-names : goal.returns-in_err-names-clause-names
returns-in_err-names-clause-names c = c.sent_names.ensures.names

pub returns-in_err-names-clause-more : goal.returns-in_err-names-clause-more
returns-in_err-names-clause-more c = c.sent_names.ensures.more

pub returns-in_err-names-clause-sent : goal.returns-in_err-names-clause-sent
returns-in_err-names-clause-sent c = IfOk-from_err c.from_residual.result _ c.from_residual.ensures.0

pub returns-in_err-names-clause-known : goal.returns-in_err-names-clause-known
returns-in_err-names-clause-known c = IfOk-from_err c.from_residual.result _ c.from_residual.ensures.0

pub returns-in_err-names-clause-taken : goal.returns-in_err-names-clause-taken
returns-in_err-names-clause-taken c = IfOk-from_err c.from_residual.result _ c.from_residual.ensures.0

pub returns-in_err-names-clause-left_injective : goal.returns-in_err-names-clause-left_injective
returns-in_err-names-clause-left_injective c = λ _. IfOk-from_err c.from_residual.result _ c.from_residual.ensures.0

pub returns-in_err-names-clause-right_injective : goal.returns-in_err-names-clause-right_injective
returns-in_err-names-clause-right_injective c = λ _. IfOk-from_err c.from_residual.result _ c.from_residual.ensures.0

pub returns-in_err-names-clause-full : goal.returns-in_err-names-clause-full
returns-in_err-names-clause-full c =
    let r = err_from_is_err_and c.from_residual.result c.from_residual.ensures.1 in
    rw (r.1, r.2) (λ e. c.in_err-names.ensures.full (same_err c.in_err-names.field-0.0 OutOfSlots e))

pub returns-in_err-names-clause-end : goal.returns-in_err-names-clause-end
returns-in_err-names-clause-end c =
    let r = err_from_is_err_and c.from_residual.result c.from_residual.ensures.1 in
    rw (r.1, r.2) (λ e. c.in_err-names.ensures.end (same_err c.in_err-names.field-0.0 OutOfSlots e))

pub returns-in_err-names-clause-only : goal.returns-in_err-names-clause-only
returns-in_err-names-clause-only c =
    let r = err_from_is_err_and c.from_residual.result c.from_residual.ensures.1 in
    rw (r.1, r.2) c.in_err-names.ensures.only
