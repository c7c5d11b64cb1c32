use Rattle.slotted_graph.specs.Rounds.{HasTakenRounds}
use Rattle.slotted_graph.proofs.edits.modify_in_rounds.Given as goal

-- the rounds so far
abbrev pub invariant-loop : goal.invariant-loop
invariant-loop g l = HasTakenRounds g.N.Analysis.codes g.N.Analysis.meaning g.N.Analysis.may_ask l.fn.graph l.counter l.graph l.asked
