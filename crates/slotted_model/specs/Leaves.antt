-- Explicit leaves: what an entry of the proof list rests on in the end.
--     parts_of s                    the entries that a step names
--     IsLeaf entries p q            q is an explicit leaf of the tree of p
--     HasLeaves E nodes entries p   a list has the pair of canonical terms of each leaf of p
use Rattle.std.specs.Prelude.{◌≡◌, ℕ, ◌<◌, List, [], ◌∷◌, length, Contains}
use Rattle.slotted_theory.specs.Nameless.{DTerm}
use Rattle.slotted_model.specs.ProofList.{ProofEntry, Step, explicit, reflexive, symmetric, transitive, congruent, equation_at, step_at, term_pair}

-- the entries that a step names, in its order
abbrev pub parts_of : Step → List ℕ
parts_of explicit = []
parts_of reflexive = []
parts_of (symmetric p) = p ∷ []
parts_of (transitive p q) = p ∷ q ∷ []
parts_of (congruent ps) = ps

-- the explicit leaves of an entry: the entry itself, if it is explicit, and the leaves of its parts
pub data IsLeaf (entries : List ProofEntry) : ℕ → ℕ → Type 0 where
  here : {p : ℕ} → p < length entries → step_at entries p ≡ explicit → IsLeaf entries p p
  through : {p r q : ℕ} → Contains (parts_of (step_at entries p)) r → IsLeaf entries r q → IsLeaf entries p q

-- the list has the pair of canonical terms of each explicit leaf of the entry p
abbrev pub HasLeaves : List (DTerm × DTerm) → List DTerm → List ProofEntry → ℕ → Type 0
HasLeaves E nodes entries p = (q : ℕ) → IsLeaf entries p q → Contains E (term_pair nodes (equation_at entries q))
