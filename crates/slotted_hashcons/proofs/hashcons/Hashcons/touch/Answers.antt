-- Those over the class wait.
use Rattle.std.proofs.Common.{[], refl, subst, slice_index_or}
use Rattle.slotted_model.specs.State.{HasTouched}
use Rattle.slotted_hashcons.specs.FiledRows.{rows_state, WaitsOn}
use Rattle.slotted_hashcons.specs.Over.{WaitOver}
use Rattle.slotted_hashcons.proofs.Together.{fit-waiting, touched}
use Rattle.slotted_hashcons.proofs.hashcons.Hashcons.touch.Goals as goal

pub invariant_of-self : goal.invariant_of-self
invariant_of-self g c =
    fit-waiting c.self.inside.nodes c.self.inside.usages c.self.inside.waiting c.self.invariant c.args.class c.wait_over.new.waiting c.wait_over.ensures.more

pub invariant_of-self-2 : goal.invariant_of-self-2
invariant_of-self-2 g c =
    fit-waiting c.self.inside.nodes c.self.inside.usages c.self.inside.waiting c.self.invariant c.args.class c.wait_over.new.waiting c.wait_over.ensures.more

pub returns-clause-waiting : goal.returns-clause-waiting
returns-clause-waiting g c =
    let v = c.self.inside.nodes in
    let us = c.self.inside.usages in
    let u = c.wait_over.new.waiting in
    let over : WaitOver (slice_index_or us c.args.class []) v c.args.class u.queue = subst (λ xs. WaitOver xs v c.args.class u.queue) c.of.ensures c.in_ok-wait_over.ensures.ok in
    subst (λ s. HasTouched (rows_state s) c.args.class u.queue) c.self.view_is
    (touched v us c.self.inside.waiting c.self.invariant c.args.class u c.wait_over.ensures.more over)

pub returns-clause-waits : goal.returns-clause-waits
returns-clause-waits g c =
    let v = c.self.inside.nodes in
    let u = c.wait_over.new.waiting in
    subst (λ s. WaitsOn s (record { filed = v; waiting = u.queue })) c.self.view_is
    (record { same = refl; more = c.wait_over.ensures.more.more; waits = c.wait_over.ensures.more.grows })
