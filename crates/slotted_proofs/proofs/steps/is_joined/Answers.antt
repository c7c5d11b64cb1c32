use Rattle.std.proofs.Common.{◌↔◌, IsTrue, sym, ◌∙◌}
use Rattle.std.proofs.lemmas.Bool.{false≢true}
use Rattle.std.proofs.lemmas.Result.{IfOk-weaker}
use Rattle.slotted_proofs.specs.Steps.{HalvesJoin, PairsJoin}
use Rattle.slotted_proofs.proofs.steps.is_joined.Goals as goal

pub returns-then-not-goes_over-clause-ok : goal.returns-then-not-goes_over-clause-ok
returns-then-not-goes_over-clause-ok c = (λ y. absurd (false≢true y), λ h. absurd (false≢true (sym c.if-not-goes_over.true ∙ c.goes_over.ensures.1 h.0)))

pub can_join-requires-clause-whole : goal.can_join-requires-clause-whole
can_join-requires-clause-whole c = c.requires.whole

pub can_join-requires-clause-first : goal.can_join-requires-clause-first
can_join-requires-clause-first c = c.requires.first

pub can_join-requires-clause-second : goal.can_join-requires-clause-second
can_join-requires-clause-second c = c.requires.second

pub can_join-requires-clause-over : goal.can_join-requires-clause-over
can_join-requires-clause-over c = c.goes_over.ensures.0 c.if-not-goes_over.false

pub returns-clause-ok : goal.returns-clause-ok
returns-clause-ok c =
    let whole = c.args.whole.now in
    let first = c.args.first.now in
    let second = c.args.second.now in
    IfOk-weaker c.can_join.result (λ yes. IsTrue yes ↔ PairsJoin whole first second) (λ yes. IsTrue yes ↔ HalvesJoin whole first second)
    (λ _ told. (λ y. (c.goes_over.ensures.0 c.if-not-goes_over.false, told.0 y), λ h. told.1 h.1)) c.can_join.ensures.ok

pub returns-clause-err : goal.returns-clause-err
returns-clause-err c = c.can_join.ensures.err
