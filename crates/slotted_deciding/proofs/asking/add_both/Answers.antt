use Rattle.std.proofs.Common.{inr}
use Rattle.std.proofs.lemmas.Bool.{false≢true}
use Rattle.slotted_proofs.specs.Equations.{to_applied}
use Rattle.slotted_operations.proofs.CallerLemmas.{term_later}
use Rattle.slotted_deciding.proofs.Asked.{stands-later}
use Rattle.slotted_deciding.proofs.Growing.{leads-then, leads-with}
use Rattle.slotted_deciding.proofs.Unions.{goes-added, good-graph}
use Rattle.slotted_graph.proofs.Saying.{carried-lowers}
use Rattle.slotted_deciding.proofs.asking.add_both.Goals as goal

pub add_syn_expr_quietly-requires-2 : goal.add_syn_expr_quietly-requires-2
add_syn_expr_quietly-requires-2 g c = inr (term_later c.args.graph.now.table c.add_syn_expr_quietly.new.self.table c.add_syn_expr_quietly.ensures.more c.args.right.now c.requires.second)

pub returns-clause-goes : goal.returns-clause-goes
returns-clause-goes g c =
    let start = c.args.graph.now in
    let k = c.add_syn_expr_quietly.new.self in
    let h = c.add_syn_expr_quietly-2.new.self in
    let one = leads-with g.N.Analysis.codes g.N.Analysis.meaning start k (goes-added start k (good-graph k (λ bad. false≢true (c.in_ok-one.ensures.fails.0 bad)) c.add_syn_expr_quietly.ensures.rests) c.in_ok-one.ensures.extends c.in_ok-one.ensures.adds c.add_syn_expr_quietly.ensures.more)
    (carried-lowers g.N.Analysis.codes g.N.Analysis.meaning start k c.in_ok-one.ensures.carries) in
    leads-then g.N.Analysis.codes g.N.Analysis.meaning g.met.N.Analysis.is_merge start k h one
    (leads-with g.N.Analysis.codes g.N.Analysis.meaning k h (goes-added k h (good-graph h (λ bad. false≢true (c.in_ok-two.ensures.fails.0 bad)) c.add_syn_expr_quietly-2.ensures.rests) c.in_ok-two.ensures.extends c.in_ok-two.ensures.adds c.add_syn_expr_quietly-2.ensures.more)
    (carried-lowers g.N.Analysis.codes g.N.Analysis.meaning k h c.in_ok-two.ensures.carries))

pub returns-clause-left : goal.returns-clause-left
returns-clause-left g c =
    let k = c.add_syn_expr_quietly.new.self in
    let h = c.add_syn_expr_quietly-2.new.self in
    stands-later k h (to_applied c.in_ok-one.one) c.args.left.now
    (goes-added k h (good-graph h (λ bad. false≢true (c.in_ok-two.ensures.fails.0 bad)) c.add_syn_expr_quietly-2.ensures.rests) c.in_ok-two.ensures.extends c.in_ok-two.ensures.adds c.add_syn_expr_quietly-2.ensures.more)
    (record { full = c.in_ok-one.ensures.valid; term = c.in_ok-one.ensures.term })
