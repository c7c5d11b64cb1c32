use Rattle.std.proofs.Common.{◌≡◌, ◌∙◌, ap, arith, length, subst, sym}
use Rattle.std.specs.Prelude.{nat_eq, vec_len}
use Rattle.slotted_operations.specs.Graph.{OnlyTakesSlots}
use Rattle.slotted_operations.proofs.CallerLemmas.{takes_twice}
use Rattle.slotted_deciding.proofs.Growing.{decided-takes, leads-itself, leads-then, takes-itself}
use Rattle.slotted_deciding.proofs.Twisting.{no-items}
use Rattle.slotted_deciding.proofs.deciding.settle.Goals as goal

pub returns-then-is_empty-clause-decided : goal.returns-then-is_empty-clause-decided
returns-then-is_empty-clause-decided g c said =
    let count : vec_len c.in_ok-missing.missing ≡ length c.in_ok-missing.missing.items = omega arith in
    c.in_ok-missing.ensures.none (no-items c.in_ok-missing.missing.items (ap (λ n. nat_eq n 0) (sym count) ∙ (sym c.is_empty.ensures ∙ c.if-is_empty.true)))

pub returns-then-is_empty-clause-goes : goal.returns-then-is_empty-clause-goes
returns-then-is_empty-clause-goes g c = leads-then g.N.Analysis.codes g.N.Analysis.meaning g.met.N.Analysis.is_merge c.args.graph.now c.loop.graph c.any_missing.new.graph c.loop.invariant.0 c.in_ok-missing.ensures.goes

pub returns-then-left-eq0-clause-goes : goal.returns-then-left-eq0-clause-goes
returns-then-left-eq0-clause-goes g c = leads-then g.N.Analysis.codes g.N.Analysis.meaning g.met.N.Analysis.is_merge c.args.graph.now c.loop.graph c.any_missing.new.graph c.loop.invariant.0 c.in_ok-missing.ensures.goes

pub loop-preserved : goal.loop-preserved
loop-preserved g c =
    let there = leads-then g.N.Analysis.codes g.N.Analysis.meaning g.met.N.Analysis.is_merge c.args.graph.now c.loop.graph c.any_missing.new.graph c.loop.invariant.0 c.in_ok-missing.ensures.goes in
    let start = c.args.graph.now in
    let k = c.any_missing.new.graph in (
      leads-then g.N.Analysis.codes g.N.Analysis.meaning g.met.N.Analysis.is_merge c.args.graph.now c.any_missing.new.graph c.unite_all.new.graph there c.in_ok-left.ensures.goes,
      λ decided.
          let takes = takes_twice start c.loop.graph k (c.loop.invariant.1 decided) c.in_ok-missing.ensures.takes in
          subst (OnlyTakesSlots start) (sym (c.in_ok-left.ensures.kept (decided-takes start k takes decided))) takes,
    )

pub returns-clause-goes : goal.returns-clause-goes
returns-clause-goes g c = leads-then g.N.Analysis.codes g.N.Analysis.meaning g.met.N.Analysis.is_merge c.args.graph.now c.loop.graph c.any_missing-2.new.graph c.loop.invariant.0 c.in_ok-any_missing.ensures.goes

pub returns-clause-decided : goal.returns-clause-decided
returns-clause-decided g c said =
    let count : vec_len c.in_ok-any_missing.field-0 ≡ length c.in_ok-any_missing.field-0.items = omega arith in
    c.in_ok-any_missing.ensures.none (no-items c.in_ok-any_missing.field-0.items (ap (λ n. nat_eq n 0) (sym count) ∙ (sym c.is_empty-2.ensures ∙ said)))

pub loop-init : goal.loop-init
loop-init g c = (leads-itself g.N.Analysis.codes g.N.Analysis.meaning g.met.N.Analysis.is_merge c.args.graph.now c.requires.graph, λ decided. takes-itself c.args.graph.now)

pub returns-then-is_empty-clause-kept : goal.returns-then-is_empty-clause-kept
returns-then-is_empty-clause-kept g c decided = takes_twice c.args.graph.now c.loop.graph c.any_missing.new.graph (c.loop.invariant.1 decided) c.in_ok-missing.ensures.takes

pub returns-then-left-eq0-clause-kept : goal.returns-then-left-eq0-clause-kept
returns-then-left-eq0-clause-kept g c decided = takes_twice c.args.graph.now c.loop.graph c.any_missing.new.graph (c.loop.invariant.1 decided) c.in_ok-missing.ensures.takes

pub returns-clause-kept : goal.returns-clause-kept
returns-clause-kept g c decided = takes_twice c.args.graph.now c.loop.graph c.any_missing-2.new.graph (c.loop.invariant.1 decided) c.in_ok-any_missing.ensures.takes
