use Rattle.std.proofs.Common.{inr}
use Rattle.std.proofs.lemmas.Bool.{false≢true}
use Rattle.slotted_proofs.specs.Equations.{to_applied}
use Rattle.slotted_graph.proofs.Insides.{given}
use Rattle.slotted_graph.proofs.Saying.{lowers-same}
use Rattle.slotted_deciding.proofs.Growing.{goes-explained, leads-with}
use Rattle.slotted_deciding.proofs.Unions.{good-graph, said-full}
use Rattle.slotted_deciding.proofs.stepping.explained.Goals as goal

pub explain_ids-requires-clause-left : goal.explain_ids-requires-clause-left
explain_ids-requires-clause-left g c =
    inr (said-full c.args.graph.now (to_applied c.args.a.now) c.is_full.result c.is_full.ensures c.if-not-is_full.false)

pub explain_ids-requires-clause-right : goal.explain_ids-requires-clause-right
explain_ids-requires-clause-right g c =
    inr (said-full c.args.graph.now (to_applied c.args.b.now) c.is_full-2.result c.is_full-2.ensures c.if-not-is_full-2.false)

pub returns-clause-goes : goal.returns-clause-goes
returns-clause-goes g c =
    let h = c.explain_ids.new.self in
    let is = good-graph h (λ bad. false≢true (c.in_ok-proof.ensures.fails.0 bad).0) c.explain_ids.ensures.rests in
    let kept = given is.well c.in_ok-proof.ensures.kept in
    let goes = goes-explained c.args.graph.now h is kept (given is.well c.in_ok-proof.ensures.adds) in
    leads-with g.N.Analysis.codes g.N.Analysis.meaning c.args.graph.now h goes (lowers-same g.N.Analysis.codes g.N.Analysis.meaning g.met.N.Analysis.is_merge c.args.graph.now h goes.extends.canonical kept.found kept.part)
