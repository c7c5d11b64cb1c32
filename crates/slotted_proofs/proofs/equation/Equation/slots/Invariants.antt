use Rattle.std.proofs.Common.{◌≡◌, ◌++◌, drop, fold}
use Rattle.std.specs.Ordering.{nat_cmp}
use Rattle.slotted_slots.specs.Maps.{values}
use Rattle.slotted_slots.specs.Sets.{insert_key, set_of}
use Rattle.slotted_proofs.proofs.equation.Equation.slots.Given as goal

-- the rest of the right names goes in after those so far
abbrev pub invariant-loop-i : goal.invariant-loop-i
invariant-loop-i l = fold (insert_key nat_cmp) l.slots (drop l.i (values l.self.r.m)) ≡ set_of nat_cmp (values l.self.l.m ++ values l.self.r.m)
