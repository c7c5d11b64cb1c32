-- Canonical nodes as they are given out.
--     place_count d     how many names and binders stand in a nameless term
--     binder_count d    how many binders
--     HasLargeNode g    a canonical node has 2^30 places or more
--     IsNodeOf g a f    f is the canonical node of an id's class, with the names of the id put in
use Rattle.std.specs.Prelude.{ℕ, ◌+◌, ◌^◌, ◌<◌, ◌≤◌, List, length}
use Rattle.slotted_theory.specs.Nameless.{DArgs, DTerm, stop, place, sub, scope}
use Rattle.slotted_model.specs.Classes.{canonical_node}
pub use Rattle.slotted_rebuilding.specs.Named.{IsNodeOf}

abbrev pub args_count : DArgs → ℕ
args_count stop = 0
args_count (place x rest) = 1 + args_count rest
args_count (sub op payloads args rest) = args_count args + args_count rest
args_count (scope inner rest) = 1 + args_count inner + args_count rest

abbrev pub place_count : DTerm → ℕ
place_count d = args_count d.args

abbrev pub args_binders : DArgs → ℕ
args_binders stop = 0
args_binders (place x rest) = args_binders rest
args_binders (sub op payloads args rest) = args_binders args + args_binders rest
args_binders (scope inner rest) = 1 + args_binders inner + args_binders rest

abbrev pub binder_count : DTerm → ℕ
binder_count d = args_binders d.args

-- the node of some class has 2^30 places or more
abbrev pub HasLargeNode : List DTerm → Type 0
HasLargeNode nodes = (i : ℕ) × (i < length nodes) × (2 ^ 30 ≤ place_count (canonical_node nodes i))
