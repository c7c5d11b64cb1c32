-- Canonical nodes with the names of an id put in, and those that are wide. How large a node is `slotted_languages` says.
--     IsNodeOf nodes a f      f is the canonical node of an id's class, with the names of the id put in
--     IsWideClass nodes i     the canonical node of a class is wide
--     HasWideSide nodes e     that of a side of an equation is
use Rattle.std.specs.Prelude.{◌≡◌, ℕ, ◌^◌, ◌≤◌, ◌⊎◌, List}
use Rattle.slotted_theory.specs.FiniteMaps as maps
use Rattle.slotted_theory.specs.Nameless.{DTerm, moved}
use Rattle.slotted_nodes.specs.Form.{Form}
use Rattle.slotted_languages.specs.NodeTerm.{nameless_node}
use Rattle.slotted_languages.specs.Sizes.{node_size}
use Rattle.slotted_model.specs.Applied.{Applied}
use Rattle.slotted_model.specs.Classes.{canonical_node}
use Rattle.slotted_proofs.specs.declared.equation.Equation.{Equation as Sides}
use Rattle.slotted_proofs.specs.Equations.{HasManyNames}

-- the canonical node of the id's class, with the names of the id put in
abbrev pub IsNodeOf : List DTerm → Applied → Form → Type 0
IsNodeOf nodes a f = nameless_node f ≡ moved (maps.filled a.1) (canonical_node nodes a.0)

-- the canonical node of the class has so many names, binders and children that two of these may have too many names
abbrev pub IsWideClass : List DTerm → ℕ → Type 0
IsWideClass nodes i = 2 ^ 29 ≤ node_size (canonical_node nodes i)

-- the canonical node of the class of one of the two sides is wide
abbrev pub HasWideSide : List DTerm → Sides → Type 0
HasWideSide nodes e = IsWideClass nodes e.l.id.0 ⊎ IsWideClass nodes e.r.id.0

-- slots can run out at a congruent step of the equation
abbrev pub SidesRunOut : List DTerm → Sides → Type 0
SidesRunOut nodes e = HasManyNames e ⊎ HasWideSide nodes e
