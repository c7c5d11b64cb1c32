use Rattle.std.proofs.lemmas.Result.{IfOk-weaker}
use Rattle.slotted_operations.proofs.CallerLemmas.{takes_twice}
use Rattle.slotted_graph.proofs.StatesLater.{graph-takes}
use Rattle.slotted_deciding.proofs.Growing.{all-decided, leads-takes, on_ok}
use Rattle.slotted_deciding.proofs.deciding.any_missing.Goals as goal

pub returns-then-not-is_empty-clause-goes : goal.returns-then-not-is_empty-clause-goes
returns-then-not-is_empty-clause-goes g c =
    leads-takes g.N.Analysis.codes g.N.Analysis.meaning g.met.N.Analysis.is_merge c.args.graph.now c.missing_by_generators.new.graph c.requires.graph c.missing_by_generators.ensures.takes

pub all_missing-requires : goal.all_missing-requires
all_missing-requires g c = record { graph = graph-takes c.args.graph.now c.missing_by_generators.new.graph c.requires.graph c.missing_by_generators.ensures.takes }

pub returns-clause-none : goal.returns-clause-none
returns-clause-none g c =
    let h = c.all_missing.new.graph in
    let takes = takes_twice c.args.graph.now c.missing_by_generators.new.graph h c.missing_by_generators.ensures.takes c.all_missing.ensures.takes in
    IfOk-weaker c.all_missing.result _ _
    (λ v settled none. all-decided h (graph-takes c.args.graph.now h c.requires.graph takes) (λ i l. settled none i l)) c.all_missing.ensures.none

pub returns-clause-goes : goal.returns-clause-goes
returns-clause-goes g c =
    let h = c.all_missing.new.graph in
    on_ok c.all_missing.result
    (leads-takes g.N.Analysis.codes g.N.Analysis.meaning g.met.N.Analysis.is_merge c.args.graph.now h c.requires.graph (takes_twice c.args.graph.now c.missing_by_generators.new.graph h c.missing_by_generators.ensures.takes c.all_missing.ensures.takes))
