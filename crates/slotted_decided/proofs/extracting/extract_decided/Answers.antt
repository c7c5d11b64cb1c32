use Rattle.std.proofs.Common.{inr}
use Rattle.std.proofs.lemmas.Bool.{false≢true}
use Rattle.slotted_costs.specs.Costs.{costs_by}
use Rattle.slotted_proofs.specs.Equations.{to_applied}
use Rattle.slotted_graph.proofs.Saying.{lowers-then}
use Rattle.slotted_deciding.proofs.Growing.{goes-takes, goes-then, leads-takes}
use Rattle.slotted_deciding.proofs.Refusals.{so-well}
use Rattle.slotted_decided.proofs.LeastOfEqual.{least-of_equal}
use Rattle.slotted_decided.proofs.DecidedTurns.{started-well, valid-decided}
use Rattle.slotted_decided.proofs.extracting.extract_decided.Goals as goal

pub extract_by-requires : goal.extract_by-requires
extract_by-requires g c =
    let h = c.decide.new.graph in
    let goes = so-well h.failed (λ bad. false≢true (c.in_ok-is_decided.ensures.fails.0 bad)) c.in_ok-is_decided.ensures.goes in
    valid-decided c.args.graph.now h (to_applied c.args.i.now) goes (started-well c.args.graph.now c.decide.result c.in_ok-is_decided.is_decided c.in_ok-is_decided.was c.decide.ensures.failed) c.requires

pub returns-clause-least : goal.returns-clause-least
returns-clause-least g c =
    let h = c.decide.new.graph in
    let a = to_applied c.args.i.now in
    let costs = costs_by g.CF.Cost.Ord.cmp (g.CF.CostFunction.node_cost c.args.costs) in
    record {
      between = h;
      goes = so-well h.failed (λ bad. false≢true (c.in_ok-is_decided.ensures.fails.0 bad)) c.in_ok-is_decided.ensures.goes;
      takes = c.extract_by.ensures.takes;
      least = c.in_ok-cost.ensures.least;
      decided = λ yes. (c.in_ok-is_decided.ensures.decided yes, least-of_equal h costs a c.in_ok-cost.term c.in_ok-cost.ensures.least (c.in_ok-is_decided.ensures.decided yes));
    }

pub returns-clause-goes : goal.returns-clause-goes
returns-clause-goes g c =
    let h = c.decide.new.graph in
    let goes = so-well h.failed (λ bad. false≢true (c.in_ok-is_decided.ensures.fails.0 bad)) c.in_ok-is_decided.ensures.goes in
    inr (goes-then c.args.graph.now h c.extract_by.new.eg goes (goes-takes h c.extract_by.new.eg goes.graph c.extract_by.ensures.takes))

pub returns-clause-lowers : goal.returns-clause-lowers
returns-clause-lowers g c =
    let h = c.decide.new.graph in
    let k = c.extract_by.new.eg in
    let goes = so-well h.failed (λ bad. false≢true (c.in_ok-is_decided.ensures.fails.0 bad)) c.in_ok-is_decided.ensures.goes in
    let takes = leads-takes g.N.Analysis.codes g.N.Analysis.meaning g.met.N.Analysis.is_merge h k goes.graph c.extract_by.ensures.takes in
    inr (lowers-then g.N.Analysis.codes g.N.Analysis.meaning g.met.N.Analysis.is_merge c.args.graph.now h k goes.extends (so-well h.failed (λ bad. false≢true (c.in_ok-is_decided.ensures.fails.0 bad)) c.in_ok-is_decided.ensures.lowers) takes.lowers)

pub returns-in_err-cost-clause-goes : goal.returns-in_err-cost-clause-goes
returns-in_err-cost-clause-goes g c =
    let h = c.decide.new.graph in
    let goes = so-well h.failed (λ bad. false≢true (c.in_ok-is_decided.ensures.fails.0 bad)) c.in_ok-is_decided.ensures.goes in
    inr (goes-then c.args.graph.now h c.extract_by.new.eg goes (goes-takes h c.extract_by.new.eg goes.graph c.extract_by.ensures.takes))

pub returns-in_err-cost-clause-lowers : goal.returns-in_err-cost-clause-lowers
returns-in_err-cost-clause-lowers g c =
    let h = c.decide.new.graph in
    let k = c.extract_by.new.eg in
    let goes = so-well h.failed (λ bad. false≢true (c.in_ok-is_decided.ensures.fails.0 bad)) c.in_ok-is_decided.ensures.goes in
    let takes = leads-takes g.N.Analysis.codes g.N.Analysis.meaning g.met.N.Analysis.is_merge h k goes.graph c.extract_by.ensures.takes in
    inr (lowers-then g.N.Analysis.codes g.N.Analysis.meaning g.met.N.Analysis.is_merge c.args.graph.now h k goes.extends (so-well h.failed (λ bad. false≢true (c.in_ok-is_decided.ensures.fails.0 bad)) c.in_ok-is_decided.ensures.lowers) takes.lowers)
