-- Terms that a graph can take in: each node has the right number of children, and a table knows each name.
use Rattle.std.specs.Prelude.{◌<◌, IsTrue}
use Rattle.slotted_theory.specs.Term.{Args, done, name, child, bind, Term}
use Rattle.slotted_slots.specs.Table.{Table, is_known}
pub use Rattle.slotted_slots.specs.Table.{AllKnown}

-- no child is missing and none is too many: where one is, the operator 0 stands
abbrev pub IsWhole : Args → Type 0
IsWhole done = Unit {0}
IsWhole (name x rest) = IsWhole rest
IsWhole (child op payloads args rest) = (0 < op) × IsWhole args × IsWhole rest
IsWhole (bind x inner rest) = IsWhole inner × IsWhole rest

-- the table knows each name, those of binders too
abbrev pub HasKnownNames : Table → Args → Type 0
HasKnownNames t done = Unit {0}
HasKnownNames t (name x rest) = IsTrue (is_known t x) × HasKnownNames t rest
HasKnownNames t (child op payloads args rest) = HasKnownNames t args × HasKnownNames t rest
HasKnownNames t (bind x inner rest) = IsTrue (is_known t x) × HasKnownNames t inner × HasKnownNames t rest

-- a term with known names and the right number of children at each node
pub record IsValidTerm (t : Table) (u : Term) : Type 0 where
  pub whole : IsWhole u.args
  pub known : HasKnownNames t u.args
