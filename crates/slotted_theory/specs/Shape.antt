-- Free names, and what a nameless term is up to them: its free names numbered by where they first stand.
use Rattle.std.specs.Prelude.{◌≡◌, ℕ, zero, suc, List, [], ◌∷◌, ◌++◌, Contains}
use Rattle.slotted_theory.specs.Term.{Args}
use Rattle.slotted_theory.specs.Nameless.{DArgs, DTerm, stop, place, sub, scope, extend, nameless_args, moved}
use Rattle.slotted_theory.specs.Renaming.{Bijection}

-- the free names of what stands under a binder
abbrev pub outside : List ℕ → List ℕ
outside [] = []
outside (zero ∷ xs) = outside xs
outside (suc x ∷ xs) = x ∷ outside xs

-- the free names from left to right
abbrev pub free_names : DArgs → List ℕ
free_names stop = []
free_names (place x rest) = x ∷ free_names rest
free_names (sub op payloads args rest) = free_names args ++ free_names rest
free_names (scope inner rest) = outside (free_names inner) ++ free_names rest

-- x is free in the arguments
abbrev pub IsFreeIn : ℕ → Args → Type 0
IsFreeIn x a = Contains (free_names (nameless_args (λ y. y) a)) x

-- the place of x in the list, or past all places
abbrev pub number_in : List ℕ → ℕ → ℕ
number_in [] x = x
number_in (b ∷ bs) x = extend b (number_in bs) x

-- the term with its free names numbered by where they first stand
abbrev pub shape : DTerm → DTerm
shape d = moved (number_in (free_names d.args)) d

-- the two differ by a bijection of names
abbrev pub SameUpToNames : DTerm → DTerm → Type 0
SameUpToNames d e = (π : Bijection) × (moved π.to d ≡ e)
