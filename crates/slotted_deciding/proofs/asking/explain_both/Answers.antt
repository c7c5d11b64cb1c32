use Rattle.std.proofs.Common.{subst}
use Rattle.slotted_proofs.specs.Equations.{to_applied}
use Rattle.slotted_operations.proofs.CallerLemmas.{full-valid}
use Rattle.slotted_graph.proofs.Extending.{full-extends}
use Rattle.slotted_deciding.specs.Asking.{IsJudged}
use Rattle.slotted_deciding.proofs.Asked.{different-terms}
use Rattle.slotted_deciding.proofs.Growing.{leads-then, on_ok_by}
use Rattle.slotted_deciding.proofs.asking.explain_both.Goals as goal

pub judge-requires-clause-left : goal.judge-requires-clause-left
judge-requires-clause-left g c = full-valid c.args.graph.now (to_applied c.args.both.now.left) c.requires.left

pub judge-requires-clause-right : goal.judge-requires-clause-right
judge-requires-clause-right g c = full-valid c.args.graph.now (to_applied c.args.both.now.right) c.requires.right

pub returns-in-Yes-clause-goes : goal.returns-in-Yes-clause-goes
returns-in-Yes-clause-goes g c =
    on_ok_by c.prove_both.result (leads-then g.N.Analysis.codes g.N.Analysis.meaning g.met.N.Analysis.is_merge c.args.graph.now c.judge.new.graph c.prove_both.new.graph c.in_ok-judge.ensures.goes) c.prove_both.ensures.goes

pub returns-in-No-clause-explained : goal.returns-in-No-clause-explained
returns-in-No-clause-explained g c =
    let start = c.args.graph.now in
    let h = c.judge.new.graph in
    let a = to_applied c.args.both.now.left in
    let b = to_applied c.args.both.now.right in
    let extends = c.in_ok-judge.ensures.goes.extends in
    different-terms h a b (full-extends start h a extends c.requires.left) (full-extends start h b extends c.requires.right) (subst (IsJudged h.image a b) c.in-No.is c.in_ok-judge.ensures.judged)

pub returns-in-Open-clause-explained : goal.returns-in-Open-clause-explained
returns-in-Open-clause-explained g c =
    subst (IsJudged c.judge.new.graph.image (to_applied c.args.both.now.left) (to_applied c.args.both.now.right)) c.in-Open.is c.in_ok-judge.ensures.judged
