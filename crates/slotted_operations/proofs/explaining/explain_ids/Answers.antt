use Rattle.std.proofs.Common.{◌∙◌, refl, rules, sym}
use Rattle.std.proofs.lemmas.Bool.{false≢true}
use Rattle.slotted_proofs.specs.Equations.{to_applied}
use Rattle.slotted_operations.proofs.Graphs.Finds.{full-findable}
use Rattle.slotted_operations.proofs.explaining.explain_ids.Goals as goal

pub eq-requires-clause-left : goal.eq-requires-clause-left
eq-requires-clause-left g c = full-findable c.args.store.now c.requires.good (to_applied c.args.a.now) c.requires.left

pub eq-requires-clause-right : goal.eq-requires-clause-right
eq-requires-clause-right g c = full-findable c.args.store.now c.requires.good (to_applied c.args.b.now) c.requires.right

pub returns-then-not-eq-clause-ok : goal.returns-then-not-eq-clause-ok
returns-then-not-eq-clause-ok g c = (refl, λ f. false≢true (sym c.if-not-eq.true ∙ c.eq.ensures.1 f))

pub returns-clause-ok : goal.returns-clause-ok
returns-clause-ok g c = (c.eq.ensures.0 c.if-not-eq.false, c.in_ok-answer.ensures.ok)

pub returns-in_err-answer-clause-alike : goal.returns-in_err-answer-clause-alike
returns-in_err-answer-clause-alike g c e = c.eq.ensures.0 c.if-not-eq.false

pub returns-in_err-answer-clause-full : goal.returns-in_err-answer-clause-full
returns-in_err-answer-clause-full g c e = c.in_err-answer.ensures.full (search rules)
