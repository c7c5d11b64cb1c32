use Rattle.std.proofs.Common.{inr}
use Rattle.std.proofs.lemmas.Bool.{false≢true}
use Rattle.slotted_proofs.specs.Equations.{to_applied}
use Rattle.slotted_operations.proofs.CallerLemmas.{full-valid}
use Rattle.slotted_deciding.proofs.Unions.{goes-united, good-graph, said-full}
use Rattle.slotted_graph.proofs.Saying.{carried-lowers}
use Rattle.slotted_deciding.proofs.Growing.{leads-with}
use Rattle.slotted_deciding.proofs.uniting.unite_proved.Goals as goal

pub returns-clause-goes : goal.returns-clause-goes
returns-clause-goes g c =
    let graph = c.args.graph.now in
    let e = c.args.equation.now in
    let left = said-full graph (to_applied e.l) c.is_full.result c.is_full.ensures c.if-not-is_full.false in
    let right = said-full graph (to_applied e.r) c.is_full-2.result c.is_full-2.ensures c.if-not-is_full-2.false in
    let is = good-graph c.union_quietly.new.self (λ bad. false≢true (c.in_ok-union_quietly.ensures.fails.0 bad)) c.union_quietly.ensures.rests in
    let goes = goes-united graph c.union_quietly.new.self e.l e.r _ c.in_ok-union_quietly.field-0 is left right
    (c.args.proof, c.requires.stands.0, c.requires.stands.1) c.in_ok-union_quietly.ensures.union c.in_ok-union_quietly.ensures.text c.in_ok-union_quietly.ensures.table in
    leads-with g.N.Analysis.codes g.N.Analysis.meaning graph c.union_quietly.new.self goes (carried-lowers g.N.Analysis.codes g.N.Analysis.meaning graph c.union_quietly.new.self c.in_ok-union_quietly.ensures.carries)

pub union_quietly-requires-clause-left : goal.union_quietly-requires-clause-left
union_quietly-requires-clause-left g c =
    let a = to_applied c.args.equation.now.l in
    inr (full-valid c.args.graph.now a (said-full c.args.graph.now a c.is_full.result c.is_full.ensures c.if-not-is_full.false))

pub union_quietly-requires-clause-right : goal.union_quietly-requires-clause-right
union_quietly-requires-clause-right g c =
    let a = to_applied c.args.equation.now.r in
    inr (full-valid c.args.graph.now a (said-full c.args.graph.now a c.is_full-2.result c.is_full-2.ensures c.if-not-is_full-2.false))
