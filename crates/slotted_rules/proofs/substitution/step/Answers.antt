-- Where the current frame is done, its answer is that for the child that the last frame waits for.
use Rattle.std.proofs.Common.{◌≡◌, refl, subst, sym, inr}
use Rattle.std.specs.Prelude.{length}
use Rattle.slotted_nodes.specs.Form.{children}
use Rattle.slotted_proofs.specs.Equations.{to_applied}
use Rattle.slotted_rules.proofs.Carrying.{carries-itself}
use Rattle.slotted_rules.specs.Frames.{Closes, IsOpen, TakesAnswer}
use Rattle.slotted_rules.proofs.FrameStacks.{hands-work, stack-count, stack-hands, stack-lacks}
use Rattle.slotted_rules.proofs.substitution.step.Goals as goal

pub take_answer-requires-clause-lacks : goal.take_answer-requires-clause-lacks
take_answer-requires-clause-lacks g c =
    let is = c.requires.2 in
    subst IsOpen (sym c.replace-done.ensures.after)
    (stack-lacks g.L.LanguageChildren.form (to_applied c.args.x.now) (to_applied c.args.t.now) c.requires.0 c.args.graph.now c.requires.1 c.args.stack.now is c.pop.new.self.items c.in-Some.frame c.in-Some.ensures.items)

pub take_answer-requires-clause-count : goal.take_answer-requires-clause-count
take_answer-requires-clause-count g c =
    let form = g.L.LanguageChildren.form in
    subst (λ f. f.count ≡ length (children (form f.node).tree)) (sym c.replace-done.ensures.after)
    (stack-count form (to_applied c.args.x.now) (to_applied c.args.t.now) c.requires.0 c.args.graph.now c.requires.1 c.args.stack.now c.requires.2 c.pop.new.self.items c.in-Some.frame c.in-Some.ensures.items)

pub returns-clause-stack : goal.returns-clause-stack
returns-clause-stack g c start b is =
    let form = g.L.LanguageChildren.form in
    let i = c.args.graph.now in
    let j = c.close.new.graph in
    let above = c.in-Some.frame in
    let answer = c.in_ok-answer.answer in
    let now = c.take_answer.new.frame in
    let closes = subst (λ f. Closes form i j f (to_applied answer)) c.replace-done.ensures.value c.in_ok-answer.ensures.ok in
    let takes = subst (λ f. TakesAnswer form f now answer) c.replace-done.ensures.after c.take_answer.ensures in
    stack-hands form (to_applied c.args.x.now) (to_applied c.args.t.now) start i b c.args.stack.now is c.pop.new.self.items above c.in-Some.ensures.items j answer (record { waiting = c.pop.new.self; current = now })
    (g.met.L.LanguageChildren.fits above.node) takes refl closes

pub returns-clause-work : goal.returns-clause-work
returns-clause-work g c _ start b is =
    let form = g.L.LanguageChildren.form in
    let above = c.in-Some.frame in
    let answer = c.in_ok-answer.answer in
    let now = c.take_answer.new.frame in
    let takes = subst (λ f. TakesAnswer form f now answer) c.replace-done.ensures.after c.take_answer.ensures in
    hands-work form (to_applied c.args.x.now) (to_applied c.args.t.now) start c.args.graph.now b c.args.stack.now is c.pop.new.self.items above c.in-Some.ensures.items c.close.new.graph answer (record { waiting = c.pop.new.self; current = now })
    (g.met.L.LanguageChildren.fits above.node) takes refl start.image.canonical

pub returns-in_default-clause-carries : goal.returns-in_default-clause-carries
returns-in_default-clause-carries g c = inr (carries-itself g.N.Analysis.codes g.N.Analysis.meaning g.met.N.Analysis.is_merge c.args.graph.now)
