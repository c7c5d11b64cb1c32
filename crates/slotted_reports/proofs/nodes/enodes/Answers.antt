-- The sources of the class, and the node of each.
use Rattle.std.proofs.Common.{rules, ◌∙◌, sym, subst}
use Rattle.std.specs.Prelude.{All}
use Rattle.slotted_model.specs.Correspondence.{AllDifferent}
use Rattle.slotted_proofs.specs.Equations.{to_applied}
use Rattle.slotted_reports.specs.Nodes.{AreClassNodes, HasLargeKeyOf, IsSourceOf}
use Rattle.slotted_reports.proofs.ClassNodes.{sources-different}
use Rattle.slotted_reports.proofs.Sources.{each-source}
use Rattle.slotted_reports.proofs.nodes.enodes.Goals as goal

pub node_set-requires-clause-sources : goal.node_set-requires-clause-sources
node_set-requires-clause-sources g c =
    let k = c.args.store.now in
    let r = c.args.nodes.now in
    let a = to_applied c.args.a.now in
    subst (All (IsSourceOf k r a)) (sym (c.deref.ensures.value ∙ c.in_ok-sources.ensures.ok)) (each-source k r c.requires.good a)

pub node_set-requires-clause-different : goal.node_set-requires-clause-different
node_set-requires-clause-different g c =
    subst AllDifferent (sym (c.deref.ensures.value ∙ c.in_ok-sources.ensures.ok)) (sources-different c.args.store.now c.args.nodes.now c.args.a.now.id.0)

pub returns-clause-ok : goal.returns-clause-ok
returns-clause-ok g c =
    subst (λ os. AreClassNodes g.L.LanguageChildren.form c.args.store.now c.args.nodes.now (to_applied c.args.a.now) os c.in_ok-set.set.keys) (c.deref.ensures.value ∙ c.in_ok-sources.ensures.ok) c.in_ok-set.ensures.ok

pub returns-in_err-set-clause-full : goal.returns-in_err-set-clause-full
returns-in_err-set-clause-full g c e = subst (HasLargeKeyOf c.args.nodes.now) (c.deref.ensures.value ∙ c.in_ok-sources.ensures.ok) (c.in_err-set.ensures.full (search rules))
