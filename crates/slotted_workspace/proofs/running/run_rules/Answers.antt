use Rattle.slotted_workspace.proofs.Runs.{run-answers}
use Rattle.slotted_workspace.proofs.running.run_rules.Goals as goal

pub returns-clause-answers : goal.returns-clause-answers
returns-clause-answers g c =
    let e = c.run_eqsat.ensures in
    run-answers g.L.LanguageChildren.form c.args.rules.now c.args.limits.turns (record { nodes = c.args.limits.nodes }) c.run_eqsat.new.hook (record {}) c.run_eqsat.new.clock c.args.graph.now c.run_eqsat.new.graph e.extends (λ f. (e.stays f).0) c.run_eqsat.result e.ok e.refused e.failed e.fails e.err
