-- The sources, in order, and the node of each.
use Rattle.std.proofs.Common.{rules, ◌∙◌, sym, subst}
use Rattle.std.specs.Prelude.{All}
use Rattle.std.specs.List.Sorted.{IsPermutation}
use Rattle.slotted_hashcons.specs.FiledRows.{IsFiled}
use Rattle.slotted_proofs.specs.Equations.{to_applied}
use Rattle.slotted_reports.specs.Nodes.{AreAppliedNodes, Ascend, IsSourceOf, RunsOutForKeys}
use Rattle.slotted_reports.proofs.FreshNodes.{runs_out-ordered}
use Rattle.slotted_reports.proofs.Sources.{each-filed, each-ordered}
use Rattle.slotted_reports.proofs.nodes.enodes_applied.Goals as goal

pub in_order-requires : goal.in_order-requires
in_order-requires g c =
    let sources = c.deref.ensures.value ∙ c.in_ok-sources.ensures.ok in
    subst (All (IsFiled c.args.nodes.now.filed)) (sym sources) (each-filed c.args.store.now c.args.nodes.now c.requires.good (to_applied c.args.a.now))

pub filed_nodes-requires-clause-sources : goal.filed_nodes-requires-clause-sources
filed_nodes-requires-clause-sources g c =
    let k = c.args.store.now in
    let r = c.args.nodes.now in
    let a = to_applied c.args.a.now in
    let sources = c.deref.ensures.value ∙ c.in_ok-sources.ensures.ok in
    let same = subst (λ xs. IsPermutation xs c.in_ok-ordered.ordered.items) sources c.in_ok-ordered.ensures.same in
    subst (All (IsSourceOf k r a)) (sym c.deref-2.ensures.value) (each-ordered k r c.requires.good a c.in_ok-ordered.ordered.items same)

pub returns-clause-ok : goal.returns-clause-ok
returns-clause-ok g c =
    let form = g.L.LanguageChildren.form in
    let sources = c.deref.ensures.value ∙ c.in_ok-sources.ensures.ok in
    let nodes = subst (λ os. AreAppliedNodes form c.args.table.now c.filed_nodes.new.table c.args.store.now c.args.nodes.now (to_applied c.args.a.now) os c.in_ok-answer.answer.items) c.deref-2.ensures.value c.in_ok-answer.ensures.ok in
    record {
      sources = c.in_ok-ordered.ordered.items;
      same = subst (λ xs. IsPermutation xs c.in_ok-ordered.ordered.items) sources c.in_ok-ordered.ensures.same;
      nodes = nodes;
      ascend = subst (Ascend form g.L.Ord.cmp) (sym nodes.keys) c.in_ok-ordered.ensures.ascend;
    }

pub returns-in_err-answer-clause-full : goal.returns-in_err-answer-clause-full
returns-in_err-answer-clause-full g c e =
    let r = c.args.nodes.now in
    let t = c.args.table.now in
    let u = c.filed_nodes.new.table in
    let sources = c.deref.ensures.value ∙ c.in_ok-sources.ensures.ok in
    let same = subst (λ xs. IsPermutation xs c.in_ok-ordered.ordered.items) sources c.in_ok-ordered.ensures.same in
    runs_out-ordered r t u _ c.in_ok-ordered.ordered.items same (subst (λ os. RunsOutForKeys r os t u) c.deref-2.ensures.value (c.in_err-answer.ensures.full (search rules)))
