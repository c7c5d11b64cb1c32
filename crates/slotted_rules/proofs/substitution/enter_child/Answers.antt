-- The child is answered at once, or entered: then its frame is the current one, and the frame of which it is a child waits.
use Rattle.std.proofs.Common.{◌≡◌, ◌∙◌, inr, refl, subst, sym}
use Rattle.std.specs.Prelude.{IfSome}
use Rattle.slotted_proofs.specs.Equations.{to_applied}
use Rattle.slotted_slots.specs.declared.types.AppliedId.{AppliedId}
use Rattle.slotted_model.specs.Applied.{Applied}
use Rattle.slotted_graph.specs.Graph.{IsFullId}
use Rattle.slotted_rules.proofs.Carrying.{carries-itself}
use Rattle.slotted_rules.specs.Frames.{IsKnownAnswer, Opens, next_child}
use Rattle.slotted_rules.proofs.Answering.{err-then}
use Rattle.slotted_rules.proofs.Growing.{builds-itself, builds-takes}
use Rattle.slotted_rules.proofs.Frames.{frame-count, frame-lacks, frame-next_full, frame-part, frame-value, known-replaces, next-read, opens-frame}
use Rattle.slotted_rules.proofs.FrameStacks.{enters-work, stack-enters, stack-takes, takes-work}
use Rattle.slotted_rules.proofs.substitution.enter_child.Goals as goal

pub applied_id-requires : goal.applied_id-requires
applied_id-requires g c =
    let s = c.requires.stack.2 in
    frame-lacks g.L.LanguageChildren.form (to_applied c.args.x.now) (to_applied c.args.t.now) s.middle c.args.graph.now s.last c.args.stack.now.current s.current c.requires.lacks

pub returns-in_err-child-clause-err : goal.returns-in_err-child-clause-err
returns-in_err-child-clause-err g c = err-then c.from_residual.result (inr (builds-itself c.args.graph.now c.requires.stack.2.current.walked.builds.grows.graph))

pub take_answer-requires-clause-count : goal.take_answer-requires-clause-count
take_answer-requires-clause-count g c =
    let s = c.requires.stack.2 in
    frame-count g.L.LanguageChildren.form (to_applied c.args.x.now) (to_applied c.args.t.now) s.middle c.args.graph.now s.last c.args.stack.now.current s.current

pub returns-in-Some-clause-stack : goal.returns-in-Some-clause-stack
returns-in-Some-clause-stack g c start b is =
    let form = g.L.LanguageChildren.form in
    let i = c.args.graph.now in
    let x : Applied = to_applied c.args.x.now in
    let t : Applied = to_applied c.args.t.now in
    let s = c.args.stack.now in
    let r = s.current in
    let lacks = c.requires.lacks in
    let lt = frame-lacks form x t is.middle i is.last r is.current lacks in
    let read = c.applied_id in
    let next = next-read form r read.result.now lt read.ensures.id read.ensures.keys read.ensures.names in
    let child = subst (λ (a : AppliedId). to_applied a ≡ next_child form r) (sym c.in_ok-child.ensures.ok) next in
    let answer = c.in-Some.answer in
    let known : IsKnownAnswer x t (to_applied c.in_ok-child.child) (to_applied answer) =
    subst (λ o. IfSome o (λ a. IsKnownAnswer x t (to_applied c.in_ok-child.child) (to_applied a))) c.in-Some.is c.in_ok-answer.ensures.some in
    let full = frame-next_full form x t is.middle i is.last r is.current lacks in
    let replaces = known-replaces form x t i (next_child form r) (to_applied answer) is.current.walked.builds.grows.graph (frame-part form x t is.middle i is.last r is.current) (frame-value form x t is.middle i is.last r is.current) full
    (subst (λ (a : Applied). IsKnownAnswer x t a (to_applied answer)) child known) in
    stack-takes form x t start i b s is lacks i answer (record { waiting = s.waiting; current = c.take_answer.new.frame }) (g.met.L.LanguageChildren.fits r.node) c.take_answer.ensures refl replaces

pub returns-in-Some-clause-work : goal.returns-in-Some-clause-work
returns-in-Some-clause-work g c start b is =
    let s = c.args.stack.now in
    takes-work g.L.LanguageChildren.form (to_applied c.args.x.now) (to_applied c.args.t.now) start c.args.graph.now b s is c.requires.lacks c.args.graph.now c.in-Some.answer (record { waiting = s.waiting; current = c.take_answer.new.frame })
    (g.met.L.LanguageChildren.fits s.current.node) c.take_answer.ensures refl start.image.canonical

pub frame_for-requires-clause-body : goal.frame_for-requires-clause-body
frame_for-requires-clause-body g c =
    let form = g.L.LanguageChildren.form in
    let i = c.args.graph.now in
    let x : Applied = to_applied c.args.x.now in
    let t : Applied = to_applied c.args.t.now in
    let is = c.requires.stack.2 in
    let r = c.args.stack.now.current in
    let lt = frame-lacks form x t is.middle i is.last r is.current c.requires.lacks in
    let read = c.applied_id in
    let next = next-read form r read.result.now lt read.ensures.id read.ensures.keys read.ensures.names in
    let child = subst (λ (a : AppliedId). to_applied a ≡ next_child form r) (sym c.in_ok-child.ensures.ok) next in
    subst (IsFullId i) (sym child) (frame-next_full form x t is.middle i is.last r is.current c.requires.lacks)

pub returns-in_err-push-clause-err : goal.returns-in_err-push-clause-err
returns-in_err-push-clause-err g c =
    err-then c.from_residual-in_err-push.result (inr (builds-takes c.args.graph.now c.frame_for.new.graph c.requires.stack.2.current.walked.builds.grows.graph c.in_ok-frame.ensures.ok.takes))

pub returns-clause-stack : goal.returns-clause-stack
returns-clause-stack g c start b is =
    let form = g.L.LanguageChildren.form in
    let i = c.args.graph.now in
    let j = c.frame_for.new.graph in
    let x : Applied = to_applied c.args.x.now in
    let t : Applied = to_applied c.args.t.now in
    let s = c.args.stack.now in
    let r = s.current in
    let q = c.in_ok-frame.frame in
    let lacks = c.requires.lacks in
    let lt = frame-lacks form x t is.middle i is.last r is.current lacks in
    let read = c.applied_id in
    let next = next-read form r read.result.now lt read.ensures.id read.ensures.keys read.ensures.names in
    let child = subst (λ (a : AppliedId). to_applied a ≡ next_child form r) (sym c.in_ok-child.ensures.ok) next in
    let other = c.in_ok-answer.ensures.none c.in_default.is in
    let full = frame-next_full form x t is.middle i is.last r is.current lacks in
    let frame = opens-frame form x t i j (next_child form r) q is.current.walked.builds.grows.graph (frame-part form x t is.middle i is.last r is.current) (frame-value form x t is.middle i is.last r is.current) full
    (λ e. other (child ∙ e)) (g.met.L.LanguageChildren.fits q.node) (subst (λ (a : Applied). Opens form i j a q) child c.in_ok-frame.ensures.ok) in
    stack-enters form x t start i b s is lacks j q c.replace-waiting.result (record { waiting = c.push.new.self; current = c.replace-waiting.new.dest }) c.replace-waiting.ensures.after c.replace-waiting.ensures.value c.in_ok-push.ensures.items frame

pub returns-clause-work : goal.returns-clause-work
returns-clause-work g c start b is =
    let form = g.L.LanguageChildren.form in
    let i = c.args.graph.now in
    let j = c.frame_for.new.graph in
    let x : Applied = to_applied c.args.x.now in
    let t : Applied = to_applied c.args.t.now in
    let s = c.args.stack.now in
    let r = s.current in
    let q = c.in_ok-frame.frame in
    let lt = frame-lacks form x t is.middle i is.last r is.current c.requires.lacks in
    let read = c.applied_id in
    let next = next-read form r read.result.now lt read.ensures.id read.ensures.keys read.ensures.names in
    let child = subst (λ (a : AppliedId). to_applied a ≡ next_child form r) (sym c.in_ok-child.ensures.ok) next in
    enters-work form x t start i b s is c.requires.lacks j q c.replace-waiting.result (record { waiting = c.push.new.self; current = c.replace-waiting.new.dest }) c.replace-waiting.ensures.after c.replace-waiting.ensures.value c.in_ok-push.ensures.items
    (g.met.L.LanguageChildren.fits q.node) (subst (λ (a : Applied). Opens form i j a q) child c.in_ok-frame.ensures.ok)

pub returns-in_err-child-clause-carries : goal.returns-in_err-child-clause-carries
returns-in_err-child-clause-carries g c = inr (carries-itself g.N.Analysis.codes g.N.Analysis.meaning g.met.N.Analysis.is_merge c.args.graph.now)

pub returns-in_err-answer-clause-carries : goal.returns-in_err-answer-clause-carries
returns-in_err-answer-clause-carries g c = inr (carries-itself g.N.Analysis.codes g.N.Analysis.meaning g.met.N.Analysis.is_merge c.args.graph.now)

pub returns-in-Some-clause-carries : goal.returns-in-Some-clause-carries
returns-in-Some-clause-carries g c = inr (carries-itself g.N.Analysis.codes g.N.Analysis.meaning g.met.N.Analysis.is_merge c.args.graph.now)
