-- An id that equals x is x.
use Rattle.std.proofs.Common.{◌∙◌, ap, inr, sym}
use Rattle.slotted_proofs.specs.Equations.{to_applied}
use Rattle.slotted_rules.proofs.SameIds.{other-ids, same-ids}
use Rattle.slotted_rules.proofs.substitution.known_answer.Goals as goal

pub returns-then-eq-clause-some : goal.returns-then-eq-clause-some
returns-then-eq-clause-some c =
    inr (same-ids c.args.b.now c.args.x.now (sym c.eq.ensures ∙ c.if-eq.true), ap to_applied c.in_ok-answer-2.ensures.ok)

pub returns-clause-none : goal.returns-clause-none
returns-clause-none c _ = other-ids c.args.b.now c.args.x.now (sym c.eq.ensures ∙ c.if-eq.false)
