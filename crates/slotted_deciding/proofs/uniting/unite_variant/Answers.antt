use Rattle.std.proofs.lemmas.Bool.{false≢true}
use Rattle.slotted_deciding.proofs.Growing.{leads-then, leads-with, on_ok_by}
use Rattle.slotted_deciding.proofs.Unions.{goes-added, good-graph}
use Rattle.slotted_graph.proofs.Saying.{carried-lowers}
use Rattle.slotted_deciding.proofs.uniting.unite_variant.Goals as goal

pub prove_variant-requires : goal.prove_variant-requires
prove_variant-requires g c =
    record { graph = good-graph c.add_syn_quietly.new.self (λ bad. false≢true (c.in_ok-l.ensures.fails.0 bad)) c.add_syn_quietly.ensures.rests }

pub returns-clause-goes : goal.returns-clause-goes
returns-clause-goes g c =
    let start = c.args.graph.now in
    let h = c.add_syn_quietly.new.self in
    let is = good-graph h (λ bad. false≢true (c.in_ok-l.ensures.fails.0 bad)) c.add_syn_quietly.ensures.rests in
    let added = leads-with g.N.Analysis.codes g.N.Analysis.meaning start h (goes-added start h is c.in_ok-l.ensures.extends c.in_ok-l.ensures.adds c.add_syn_quietly.ensures.more) (carried-lowers g.N.Analysis.codes g.N.Analysis.meaning start h c.in_ok-l.ensures.carries) in
    let proved = leads-then g.N.Analysis.codes g.N.Analysis.meaning g.met.N.Analysis.is_merge start h c.prove_variant.new.graph added c.in_ok-proof.ensures.goes in
    on_ok_by c.unite_proved.result (leads-then g.N.Analysis.codes g.N.Analysis.meaning g.met.N.Analysis.is_merge start c.prove_variant.new.graph c.unite_proved.new.graph proved) c.unite_proved.ensures.goes
