use Rattle.std.proofs.Common.{take, map, string_bytes}
use Rattle.std.specs.Prelude.{Contains}
use Rattle.slotted_matching.proofs.compile.number_of.Given as goal

-- none of the variables so far has the name
abbrev pub invariant-loop-k : goal.invariant-loop-k
invariant-loop-k l = ¬ Contains (take l.k (map string_bytes l.variables)) l.name
