use Rattle.std.proofs.Common.{◌≡◌, drop}
use Rattle.slotted_theory.specs.FiniteMaps.{value_of}
use Rattle.slotted_matching.proofs.naming.name_of.Given as goal

-- the name is the first one among those that are left
abbrev pub invariant-loop-name : goal.invariant-loop-name
invariant-loop-name l = value_of l.names l.number ≡ value_of (drop l.name-index l.names) l.number
