use Rattle.slotted_operations.proofs.CallerLemmas.{full-valid}
use Rattle.slotted_proofs.specs.Equations.{to_applied}
use Rattle.slotted_rules.proofs.Answering.{ok-mapped}
use Rattle.slotted_rules.proofs.StoredMethods.{canonical-answers, replaced-rests}
use Rattle.slotted_rules.proofs.stored.CanonicalOwnSubst.subst.Goals as goal

pub returns-clause-valid : goal.returns-clause-valid
returns-clause-valid g c =
    ok-mapped c.replaced.result c.replaced.ensures.ok (λ a r. full-valid c.replaced.new.graph (to_applied a) r.full)

pub returns-clause-stands : goal.returns-clause-stands
returns-clause-stands g c =
    ok-mapped c.replaced.result c.replaced.ensures.ok (λ a r k. canonical-answers c.args.graph.now c.replaced.new.graph (to_applied c.args.b) (to_applied c.args.x) (to_applied c.args.t) (to_applied a) r)

pub returns-clause-rests : goal.returns-clause-rests
returns-clause-rests g c =
    replaced-rests c.args.graph.now c.replaced.new.graph (to_applied c.args.x) (to_applied c.args.t) (to_applied c.args.b) c.replaced.result c.replaced.ensures.ok c.replaced.ensures.err
