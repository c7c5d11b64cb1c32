use Rattle.std.proofs.Common.{◌≡◌, map, take}
use Rattle.slotted_reports.proofs.nodes.sources_of.Given as goal

-- the sources so far
abbrev pub invariant-loop-i : goal.invariant-loop-i
invariant-loop-i g l = l.sources.items ≡ map (λ p. p.1) (take l.i l.pairs)
