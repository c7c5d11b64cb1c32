use Rattle.std.proofs.Common.{ap}
use Rattle.slotted_rules.specs.Seen.{parts_of}
use Rattle.slotted_lines.specs.RunsOver.{RunnerState}
use Rattle.slotted_lines.proofs.Running.{run-answered-by, run-keeps-by, run-needs, starts-over}
use Rattle.slotted_lines.proofs.runs.run_rules.Goals as goal

pub run-outcome-requires : goal.run-outcome-requires
run-outcome-requires g c = run-needs g.L.LanguageChildren.form c.args.session.now.graph c.swap.new.x c.args.session.now.rules.items c.deref.result.now c.swap.ensures.x_after c.deref.ensures.value c.requires

pub returns-clause-answers : goal.returns-clause-answers
returns-clause-answers g c =
    let form = g.L.LanguageChildren.form in
    let before = c.args.session.now.graph in
    let x = c.swap.new.x in
    let a : RunnerState = parts_of c.in_ok-runner.runner in
    let b : RunnerState = parts_of c.with_iter_limit-runner.result in
    let e = c.run-outcome.ensures in
    run-answered-by form c.args.session.now.rules.items c.deref.result.now c.args.limit _ a.hook (record {}) before c.swap-2.new.y (record b { graph = x }) (parts_of c.run-outcome.new.self) c.run-outcome.result
    c.deref.ensures.value (starts-over _ (record {}) a.hook c.args.limit before x a b c.in_ok-runner.ensures.parts c.with_iter_limit-runner.ensures c.swap.ensures.x_after) c.swap-2.ensures.y_after
    (record {
      ok = e.ok;
      refused = e.refused;
      extends = e.extends;
      stays = λ f. ap (λ r. let s : RunnerState = parts_of r in s.graph) (e.stays f);
      failed = e.failed;
      fails = e.fails;
      err = e.err;
    })

pub returns-clause-valid : goal.returns-clause-valid
returns-clause-valid g c =
    let e = c.run-outcome.ensures in
    run-keeps-by g.L.LanguageChildren.form c.args.session.now.graph c.swap-2.new.y c.swap.new.x c.run-outcome.new.self.egraph c.args.session.now.rules.items c.swap.ensures.x_after c.swap-2.ensures.y_after e.extends
    (λ f. ap (λ r. let s : RunnerState = parts_of r in s.graph) (e.stays f)) c.requires
