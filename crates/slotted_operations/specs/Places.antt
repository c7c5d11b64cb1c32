-- How many places for names a term has, its names and binders, and how many slots may be made where it is added.
use Rattle.std.specs.Prelude.{ℕ, ◌+◌}
use Rattle.slotted_theory.specs.Term.{Args, Term, done, name, child, bind}

abbrev pub args_places : Args → ℕ
args_places done = 0
args_places (name x rest) = 1 + args_places rest
args_places (child op payloads args rest) = args_places args + args_places rest
args_places (bind x inner rest) = 1 + args_places inner + args_places rest

abbrev pub term_places : Term → ℕ
term_places t = args_places t.args

-- for each child, at any depth, as many as it has places: no class of it has more slots
abbrev pub args_slots : Args → ℕ
args_slots done = 0
args_slots (name x rest) = args_slots rest
args_slots (child op payloads args rest) = args_places args + args_slots args + args_slots rest
args_slots (bind x inner rest) = args_slots inner + args_slots rest

-- and as many as the term itself has
abbrev pub term_slots : Term → ℕ
term_slots t = term_places t + args_slots t.args
