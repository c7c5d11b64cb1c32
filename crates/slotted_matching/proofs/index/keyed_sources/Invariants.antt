use Rattle.std.proofs.Common.{◌≡◌, map, take}
use Rattle.slotted_matching.proofs.index.keyed_sources.Given as goal

-- the sources so far
abbrev pub invariant-loop-i : goal.invariant-loop-i
invariant-loop-i g l = map (λ p. p.1) l.pairs.items ≡ take l.i l.sources
