-- What equations print.
use Rattle.std.specs.Prelude.{ℕ, List, ◌++◌, codes}
use Rattle.slotted_slots.specs.Shown.{shown_applied}
use Rattle.slotted_slots.specs.Table.{Table}
use Rattle.slotted_proofs.specs.declared.equation.Equation.{Equation as Sides}

-- the two sides as applied ids print
abbrev pub shown_equation : Table → Sides → List ℕ
shown_equation t e = shown_applied t e.l.id.0 e.l.m ++ (codes " = " ++ shown_applied t e.r.id.0 e.r.m)
