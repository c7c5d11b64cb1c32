use Rattle.slotted_rebuilding.proofs.Bridges.{ProvesFirst}
use Rattle.slotted_rebuilding.proofs.twins.bridges.Given as goal

-- the equations so far are proved
abbrev pub invariant-loop-equation : goal.invariant-loop-equation
invariant-loop-equation g l = ProvesFirst l.fn.store l.store l.equations l.equation-index l.parts.items
