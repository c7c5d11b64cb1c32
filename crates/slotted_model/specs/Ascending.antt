-- Ascending lists of names: a finite set of names, written in one way.
use Rattle.std.specs.Prelude.{ℕ, ◌<◌, List, [], ◌∷◌, nat_lt, nat_eq, cond}
use Rattle.slotted_theory.specs.Nameless.{DTerm}
use Rattle.slotted_theory.specs.Shape.{free_names}

-- x is below each name of the list
abbrev pub IsBelowAll : ℕ → List ℕ → Type 0
IsBelowAll x [] = Unit {0}
IsBelowAll x (y ∷ ys) = (x < y) × IsBelowAll x ys

-- each name is below all later ones
abbrev pub IsAscending : List ℕ → Type 0
IsAscending [] = Unit {0}
IsAscending (x ∷ xs) = IsBelowAll x xs × IsAscending xs

-- an ascending list with x in its place
abbrev pub with_name : ℕ → List ℕ → List ℕ
with_name x [] = x ∷ []
with_name x (y ∷ ys) = cond (nat_lt x y) (x ∷ y ∷ ys) (cond (nat_eq x y) (y ∷ ys) (y ∷ with_name x ys))

-- the same names ascending, each once
abbrev pub ascending : List ℕ → List ℕ
ascending [] = []
ascending (x ∷ xs) = with_name x (ascending xs)

-- the free names of a term, ascending
abbrev pub names : DTerm → List ℕ
names d = ascending (free_names d.args)
