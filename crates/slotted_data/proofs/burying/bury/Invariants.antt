use Rattle.std.proofs.Common.{take}
use Rattle.slotted_data.specs.Meaning.{by_bare_nodes}
use Rattle.slotted_data.specs.Burying.{Buries}
use Rattle.slotted_data.proofs.burying.bury.Given as goal

-- the classes so far have gone to what they find
abbrev pub invariant-loop-dead : goal.invariant-loop-dead
invariant-loop-dead g l = Buries (by_bare_nodes (g.N.Analysis.meaning l.analysis)) l.store (take l.dead-index l.deaths) l.fn.nodes l.nodes l.fn.data l.data
