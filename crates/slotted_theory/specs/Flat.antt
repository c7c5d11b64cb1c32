-- The names of a term in a row: its places from left to right, and which binders are open at a place.
use Rattle.std.specs.Prelude.{ℕ, zero, suc, List, [], ◌∷◌, ◌++◌, length, get_or, nat_lt, cond}
use Rattle.slotted_theory.specs.Term.{Args, done, name, child, bind}
use Rattle.slotted_theory.specs.Shape.{number_in}

-- each name from left to right, with 0, or for a binder one more than the number of places in its scope
abbrev pub places : Args → List (ℕ × ℕ)
places done = []
places (name x rest) = (x, 0) ∷ places rest
places (child op payloads args rest) = places args ++ places rest
places (bind x inner rest) = (x, suc (length (places inner))) ∷ (places inner ++ places rest)

-- the names of the binders whose scope has the place i, the innermost first, before those that are open outside
abbrev pub open_at : List (ℕ × ℕ) → ℕ → List ℕ → List ℕ
open_at ps zero outside = outside
open_at [] (suc i) outside = outside
open_at (p ∷ ps) (suc i) outside = open_at ps i (cond (nat_lt (suc i) p.1) (p.0 ∷ outside) outside)

-- the name at the place i
abbrev pub name_at : List (ℕ × ℕ) → ℕ → ℕ
name_at ps i = (get_or ps i (0, 0)).0

-- the number of the name at the place i, where bs are open outside
abbrev pub number_of : List (ℕ × ℕ) → List ℕ → ℕ → ℕ
number_of ps bs i = number_in (open_at ps i bs) (name_at ps i)

-- the number of each place's name where it stands, from left to right
abbrev pub numbers : List ℕ → Args → List ℕ
numbers bs done = []
numbers bs (name x rest) = number_in bs x ∷ numbers bs rest
numbers bs (child op payloads args rest) = numbers bs args ++ numbers bs rest
numbers bs (bind x inner rest) = number_in bs x ∷ (numbers (x ∷ bs) inner ++ numbers bs rest)
