use Rattle.std.proofs.Common.{inl, inr, refl}
use Rattle.std.proofs.lemmas.Bool.{false≢true}
use Rattle.slotted_rules.proofs.Carrying.{carried-along, carries-itself}
use Rattle.slotted_rules.proofs.Growing.{graph-added}
use Rattle.slotted_rules.proofs.adding.add_node.Goals as goal

pub returns-clause-builds : goal.returns-clause-builds
returns-clause-builds g c =
    graph-added c.args.graph.now c.add_syn_quietly.new.self c.add_syn_quietly.ensures.rests (λ failed. false≢true (c.in_ok-answer.ensures.fails.0 failed))
    c.in_ok-answer.ensures.extends c.in_ok-answer.ensures.adds c.add_syn_quietly.ensures.more

pub returns-in_err-answer-clause-carries : goal.returns-in_err-answer-clause-carries
returns-in_err-answer-clause-carries g c = inl (c.in_err-answer.ensures.fails.1 refl)

pub returns-clause-carries : goal.returns-clause-carries
returns-clause-carries g c = inr (carried-along g.N.Analysis.codes g.N.Analysis.meaning c.args.graph.now c.add_syn_quietly.new.self c.in_ok-answer.ensures.carries)

pub returns-then-slot_count-ge-PLACES-clause-carries : goal.returns-then-slot_count-ge-PLACES-clause-carries
returns-then-slot_count-ge-PLACES-clause-carries g c = inr (carries-itself g.N.Analysis.codes g.N.Analysis.meaning g.met.N.Analysis.is_merge c.args.graph.now)
