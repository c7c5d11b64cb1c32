-- The parts of nameless arguments: by them two that are equal have equal parts.
use Rattle.std.specs.Prelude.{ℕ, []}
use Rattle.slotted_theory.specs.Nameless.{DArgs, DTerm, stop, place, sub, scope}
use Rattle.slotted_theory.proofs.Values.{node}

-- which of the four forms
abbrev pub kind : DArgs → ℕ
kind stop = 0
kind (place x rest) = 1
kind (sub op payloads args rest) = 2
kind (scope inner rest) = 3

-- the name in front
abbrev pub first_name : DArgs → ℕ
first_name stop = 0
first_name (place x rest) = x
first_name (sub op payloads args rest) = 0
first_name (scope inner rest) = 0

-- the child in front
abbrev pub first_child : DArgs → DTerm
first_child stop = node 0 [] stop
first_child (place x rest) = node 0 [] stop
first_child (sub op payloads args rest) = node op payloads args
first_child (scope inner rest) = node 0 [] stop

-- what stands under the binder in front
abbrev pub first_scope : DArgs → DArgs
first_scope stop = stop
first_scope (place x rest) = stop
first_scope (sub op payloads args rest) = stop
first_scope (scope inner rest) = inner

-- what comes after the first
abbrev pub after_first : DArgs → DArgs
after_first stop = stop
after_first (place x rest) = rest
after_first (sub op payloads args rest) = rest
after_first (scope inner rest) = rest
