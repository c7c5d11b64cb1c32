use Rattle.std.proofs.Common.{inr}
use Rattle.std.proofs.lemmas.Bool.{false≢true}
use Rattle.slotted_proofs.specs.Equations.{to_applied}
use Rattle.slotted_deciding.proofs.Asked.{equal-fillings}
use Rattle.slotted_deciding.proofs.Growing.{leads-itself, leads-with}
use Rattle.slotted_deciding.proofs.Refusals.{so-well}
use Rattle.slotted_deciding.proofs.asking.judge.Goals as goal

pub returns-then-branch-clause-judged : goal.returns-then-branch-clause-judged
returns-then-branch-clause-judged g c =
    equal-fillings c.args.graph.now.image (to_applied c.args.a.now) (to_applied c.args.b.now) c.in_ok-is_equal_up_to_symmetries.field-0 c.in_ok-is_equal_up_to_symmetries.ensures.filled c.if-branch.true

pub returns-then-branch-clause-goes : goal.returns-then-branch-clause-goes
returns-then-branch-clause-goes g c = leads-itself g.N.Analysis.codes g.N.Analysis.meaning g.met.N.Analysis.is_merge c.args.graph.now c.requires.graph

pub is_equal_up_to_symmetries-requires-2-clause-left : goal.is_equal_up_to_symmetries-requires-2-clause-left
is_equal_up_to_symmetries-requires-2-clause-left g c =
    let goes = so-well c.decide.new.graph.failed (λ bad. false≢true (c.in_ok-is_decided.ensures.fails.0 bad)) c.in_ok-is_decided.ensures.goes in
    inr (goes.extends.valid (to_applied c.args.a.now) c.requires.left)

pub is_equal_up_to_symmetries-requires-2-clause-right : goal.is_equal_up_to_symmetries-requires-2-clause-right
is_equal_up_to_symmetries-requires-2-clause-right g c =
    let goes = so-well c.decide.new.graph.failed (λ bad. false≢true (c.in_ok-is_decided.ensures.fails.0 bad)) c.in_ok-is_decided.ensures.goes in
    inr (goes.extends.valid (to_applied c.args.b.now) c.requires.right)

pub returns-then-branch-2-clause-judged : goal.returns-then-branch-2-clause-judged
returns-then-branch-2-clause-judged g c =
    equal-fillings c.decide.new.graph.image (to_applied c.args.a.now) (to_applied c.args.b.now) c.in_ok-is_equal_up_to_symmetries-2.field-0 c.in_ok-is_equal_up_to_symmetries-2.ensures.filled c.if-branch-2.true

pub returns-then-branch-2-clause-goes : goal.returns-then-branch-2-clause-goes
returns-then-branch-2-clause-goes g c = leads-with g.N.Analysis.codes g.N.Analysis.meaning c.args.graph.now c.decide.new.graph (so-well c.decide.new.graph.failed (λ bad. false≢true (c.in_ok-is_decided.ensures.fails.0 bad)) c.in_ok-is_decided.ensures.goes) (so-well c.decide.new.graph.failed (λ bad. false≢true (c.in_ok-is_decided.ensures.fails.0 bad)) c.in_ok-is_decided.ensures.lowers)

pub returns-then-is_decided-clause-goes : goal.returns-then-is_decided-clause-goes
returns-then-is_decided-clause-goes g c = leads-with g.N.Analysis.codes g.N.Analysis.meaning c.args.graph.now c.decide.new.graph (so-well c.decide.new.graph.failed (λ bad. false≢true (c.in_ok-is_decided.ensures.fails.0 bad)) c.in_ok-is_decided.ensures.goes) (so-well c.decide.new.graph.failed (λ bad. false≢true (c.in_ok-is_decided.ensures.fails.0 bad)) c.in_ok-is_decided.ensures.lowers)

pub returns-clause-goes : goal.returns-clause-goes
returns-clause-goes g c = leads-with g.N.Analysis.codes g.N.Analysis.meaning c.args.graph.now c.decide.new.graph (so-well c.decide.new.graph.failed (λ bad. false≢true (c.in_ok-is_decided.ensures.fails.0 bad)) c.in_ok-is_decided.ensures.goes) (so-well c.decide.new.graph.failed (λ bad. false≢true (c.in_ok-is_decided.ensures.fails.0 bad)) c.in_ok-is_decided.ensures.lowers)
