-- What the look-up answers is valid, and is what the node is looked up as: so what `eq` says of it is said of the node.
use Rattle.std.proofs.Common.{subst, inr, Option}
use Rattle.std.specs.Prelude.{IfSome}
use Rattle.slotted_slots.specs.declared.types.AppliedId.{AppliedId}
use Rattle.slotted_egraphs.specs.Reports.{IsFound}
use Rattle.slotted_egraphs.specs.Nodes.{to_applied}
use Rattle.slotted_egraphs.proofs.Asking.{filed_some, filed_none, filed_equal}
use Rattle.slotted_egraphs.proofs.example.is_filed_as.Goals as goal

pub eq-requires-clause-left : goal.eq-requires-clause-left
eq-requires-clause-left g c =
    inr (subst (λ (o : Option AppliedId). IfSome o (λ a. IsFound c.args.graph.now (to_applied a))) c.in-Some.is c.in_ok-found.ensures.found).valid

pub eq-requires-clause-right : goal.eq-requires-clause-right
eq-requires-clause-right g c = c.requires.id

pub returns-in_default-clause-filed : goal.returns-in_default-clause-filed
returns-in_default-clause-filed g c =
    filed_none c.args.graph.now (g.L.LanguageChildren.form c.args.node.now) _ (to_applied c.args.id.now) c.in_default.is c.in_ok-found.ensures.id

pub returns-clause-filed : goal.returns-clause-filed
returns-clause-filed g c =
    filed_some c.args.graph.now (g.L.LanguageChildren.form c.args.node.now) c.in-Some.found _ (to_applied c.args.id.now) c.eq.result c.in-Some.is c.in_ok-found.ensures.id c.eq.ensures.found

pub returns-clause-equal : goal.returns-clause-equal
returns-clause-equal g c =
    filed_equal c.args.graph.now (g.L.LanguageChildren.form c.args.node.now) c.in-Some.found _ (to_applied c.args.id.now) c.eq.result c.in-Some.is c.in_ok-found.ensures.found c.in_ok-found.ensures.equal c.eq.ensures.filled
