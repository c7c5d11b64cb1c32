-- The stack begins with the frame of the body. In the end its answer is that for the body.
use Rattle.std.proofs.Common.{inr, refl, subst, sym}
use Rattle.std.specs.Prelude.{IfSome}
use Rattle.slotted_model.specs.Applied.{Applied}
use Rattle.slotted_proofs.specs.Equations.{to_applied}
use Rattle.slotted_rules.proofs.Carrying.{carries-itself, carries-on, carries-takes, later-carries}
use Rattle.slotted_rules.specs.Frames.{Closes, IsKnownAnswer, Waits}
use Rattle.slotted_rules.specs.Substituting.{Replaces}
use Rattle.slotted_rules.proofs.Answering.{err-mapped, err-then, ok-mapped}
use Rattle.slotted_rules.proofs.Growing.{builds-itself, later-builds}
use Rattle.slotted_rules.proofs.Frames.{known-replaces, opens-frame}
use Rattle.slotted_rules.proofs.FrameStacks.{stack-builds, stack-ends}
use Rattle.slotted_rules.proofs.substitution.replaced.Goals as goal

pub returns-in_err-answer-clause-err : goal.returns-in_err-answer-clause-err
returns-in_err-answer-clause-err g c = err-then c.from_residual.result (inr (builds-itself c.args.graph.now c.requires.graph))

pub returns-in-Some-clause-ok : goal.returns-in-Some-clause-ok
returns-in-Some-clause-ok g c =
    let x : Applied = to_applied c.args.x.now in
    let t : Applied = to_applied c.args.t.now in
    let b : Applied = to_applied c.args.b.now in
    let r = c.requires in
    known-replaces g.L.LanguageChildren.form x t c.args.graph.now b (to_applied c.in-Some.answer) r.graph r.part r.value r.body
    (subst (λ o. IfSome o (λ a. IsKnownAnswer x t b (to_applied a))) c.in-Some.is c.in_ok-answer.ensures.some)

pub loop-stack-init : goal.loop-stack-init
loop-stack-init g c =
    let form = g.L.LanguageChildren.form in
    let g0 = c.args.graph.now in
    let x : Applied = to_applied c.args.x.now in
    let t : Applied = to_applied c.args.t.now in
    let b : Applied = to_applied c.args.b.now in
    let r = c.requires in
    let current = c.in_ok-current.current in
    record {
      stack = record {
        middle = g0;
        last = b;
        waits = subst (λ rs. Waits form g0 g0 x t b rs b) (sym c.new-waiting.ensures.items) (refl, refl);
        current = opens-frame form x t g0 c.frame_for.new.graph b current r.graph r.part r.value r.body (c.in_ok-answer.ensures.none c.in_default.is)
            (g.met.L.LanguageChildren.fits current.node) c.in_ok-current.ensures.ok;
      };
      carries = carries-takes g.N.Analysis.codes g.N.Analysis.meaning g.met.N.Analysis.is_merge g0 c.frame_for.new.graph c.in_ok-current.ensures.ok.takes;
    }

pub returns-in_err-step-clause-err : goal.returns-in_err-step-clause-err
returns-in_err-step-clause-err g c =
    let g0 = c.args.graph.now in
    let i = c.loop-stack.graph in
    let s = c.loop-stack.invariant.stack in
    err-then c.from_residual-in_err-step.result
    (later-builds g0 i c.step.new.graph (stack-builds g.L.LanguageChildren.form (to_applied c.args.x.now) (to_applied c.args.t.now) g0 i (to_applied c.args.b.now) c.loop-stack.stack s) c.in_err-step.ensures.err)

pub loop-stack-smaller : goal.loop-stack-smaller
loop-stack-smaller g c = c.in_ok-step.ensures.work c.if-branch.true c.args.graph.now (to_applied c.args.b.now) c.loop-stack.invariant.stack

pub loop-stack-preserved : goal.loop-stack-preserved
loop-stack-preserved g c =
    let g0 = c.args.graph.now in
    let i = c.loop-stack.graph in
    let b : Applied = to_applied c.args.b.now in
    let before = c.loop-stack.invariant.stack in
    let after = c.in_ok-step.ensures.stack g0 b before in
    let builds = stack-builds g.L.LanguageChildren.form (to_applied c.args.x.now) (to_applied c.args.t.now) g0 i b c.loop-stack.stack before in
    record {
      stack = after;
      carries = carries-on g.N.Analysis.codes g.N.Analysis.meaning g.met.N.Analysis.is_merge g0 i c.step.new.graph builds.grows.extends c.loop-stack.invariant.carries after.current.walked.builds.grows.graph.well c.step.ensures.carries;
    }

pub close-requires : goal.close-requires
close-requires g c =
    let s = c.in_ok-step.ensures.stack c.args.graph.now (to_applied c.args.b.now) c.loop-stack.invariant.stack in
    record {
      start = s.middle;
      part = to_applied c.args.x.now;
      value = to_applied c.args.t.now;
      body = s.last;
      frame = s.current;
      whole = (c.in_ok-step.ensures.end c.if-branch.false).whole;
    }

pub returns-clause-ok : goal.returns-clause-ok
returns-clause-ok g c =
    let form = g.L.LanguageChildren.form in
    let g0 = c.args.graph.now in
    let j = c.step.new.graph in
    let k = c.close.new.graph in
    let x : Applied = to_applied c.args.x.now in
    let t : Applied = to_applied c.args.t.now in
    let b : Applied = to_applied c.args.b.now in
    let stack = c.step.new.stack in
    let s = c.in_ok-step.ensures.stack g0 b c.loop-stack.invariant.stack in
    let alone = (c.in_ok-step.ensures.end c.if-branch.false).alone in
    ok-mapped c.close.result {P = λ a. Closes form j k stack.current (to_applied a)} {Q = λ a. Replaces g0 k x t b (to_applied a)} c.close.ensures.ok
    (λ a closes. stack-ends form x t g0 j b stack s alone k (to_applied a) closes)

pub returns-clause-err : goal.returns-clause-err
returns-clause-err g c =
    let g0 = c.args.graph.now in
    let j = c.step.new.graph in
    let b : Applied = to_applied c.args.b.now in
    let s = c.in_ok-step.ensures.stack g0 b c.loop-stack.invariant.stack in
    err-mapped c.close.result c.close.ensures.err
    (later-builds g0 j c.close.new.graph (stack-builds g.L.LanguageChildren.form (to_applied c.args.x.now) (to_applied c.args.t.now) g0 j b c.step.new.stack s))

pub returns-in_err-answer-clause-carries : goal.returns-in_err-answer-clause-carries
returns-in_err-answer-clause-carries g c = inr (carries-itself g.N.Analysis.codes g.N.Analysis.meaning g.met.N.Analysis.is_merge c.args.graph.now)

pub returns-in-Some-clause-carries : goal.returns-in-Some-clause-carries
returns-in-Some-clause-carries g c = inr (carries-itself g.N.Analysis.codes g.N.Analysis.meaning g.met.N.Analysis.is_merge c.args.graph.now)

pub returns-in_err-step-clause-carries : goal.returns-in_err-step-clause-carries
returns-in_err-step-clause-carries g c =
    let g0 = c.args.graph.now in
    let i = c.loop-stack.graph in
    let builds = stack-builds g.L.LanguageChildren.form (to_applied c.args.x.now) (to_applied c.args.t.now) g0 i (to_applied c.args.b.now) c.loop-stack.stack c.loop-stack.invariant.stack in
    later-carries g.N.Analysis.codes g.N.Analysis.meaning g.met.N.Analysis.is_merge g0 i c.step.new.graph builds.grows.extends c.loop-stack.invariant.carries c.step.ensures.carries

pub returns-clause-carries : goal.returns-clause-carries
returns-clause-carries g c =
    let form = g.L.LanguageChildren.form in
    let g0 = c.args.graph.now in
    let i = c.loop-stack.graph in
    let j = c.step.new.graph in
    let x : Applied = to_applied c.args.x.now in
    let t : Applied = to_applied c.args.t.now in
    let b : Applied = to_applied c.args.b.now in
    let before = c.loop-stack.invariant.stack in
    let after = c.in_ok-step.ensures.stack g0 b before in
    let builds = stack-builds form x t g0 i b c.loop-stack.stack before in
    let built = stack-builds form x t g0 j b c.step.new.stack after in
    let carries = carries-on g.N.Analysis.codes g.N.Analysis.meaning g.met.N.Analysis.is_merge g0 i j builds.grows.extends c.loop-stack.invariant.carries after.current.walked.builds.grows.graph.well c.step.ensures.carries in
    later-carries g.N.Analysis.codes g.N.Analysis.meaning g.met.N.Analysis.is_merge g0 j c.close.new.graph built.grows.extends carries c.close.ensures.carries
