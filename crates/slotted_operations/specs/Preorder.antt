-- The term of a list of nodes, each before the nodes of the terms under it, which follow from the left.
--     built ns ts        what is built of the nodes, from the last one on, over terms that are there
--     HasEnough ns ts    each node finds as many terms as it stands over
use Rattle.std.specs.Prelude.{◌≡◌, ◌≤◌, ◌-◌, ℕ, List, [], ◌∷◌, ◌++◌, length, take, drop, reverse}
use Rattle.slotted_theory.specs.Term.{Term}
use Rattle.slotted_nodes.specs.Form.{Form}
use Rattle.slotted_languages.specs.Filled.{term_of}

-- a node over the last n terms, of which the last one comes first
abbrev pub over_last_of : Form → ℕ → List Term → List Term
over_last_of f n ts = take (length ts - n) ts ++ term_of f (reverse (drop (length ts - n) ts)) ∷ []

abbrev pub built : List (Form × ℕ) → List Term → List Term
built [] ts = ts
built ((f, n) ∷ ns) ts = over_last_of f n (built ns ts)

abbrev pub HasEnough : List (Form × ℕ) → List Term → Type 0
HasEnough [] ts = Unit {0}
HasEnough ((f, n) ∷ ns) ts = (n ≤ length (built ns ts)) × HasEnough ns ts

-- the list is that of one term
pub record IsOfOneTerm (ns : List (Form × ℕ)) : Type 0 where
  pub term : Term
  pub value : built ns [] ≡ term ∷ []
  pub enough : HasEnough ns []
