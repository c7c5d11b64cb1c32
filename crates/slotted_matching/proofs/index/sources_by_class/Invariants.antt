use Rattle.std.proofs.Common.{map}
use Rattle.slotted_matching.specs.Indexed.{AreSourcesBelow}
use Rattle.slotted_matching.proofs.index.sources_by_class.Given as goal

abbrev pub invariant-loop-source : goal.invariant-loop-source
invariant-loop-source g l = AreSourcesBelow l.store l.nodes l.source (map (λ b. b.items) l.sources.items)
