-- What holds of the equations that a proof list holds.
use Rattle.std.specs.Prelude.{◌≡◌, ℕ, List, [], ◌∷◌, map}
use Rattle.slotted_proofs.specs.declared.equation.Equation.{Equation as Sides}
use Rattle.slotted_proofs.specs.declared.proof.Proof.{Proof}
use Rattle.slotted_proofs.specs.Equations.{statement_of, IsWritten}
use Rattle.slotted_proofs.specs.Entries.{proven_of, entries_of, explicit_numbers}

-- each equation has numbered names
abbrev pub AreWritten : List (Sides × Proof) → Type 0
AreWritten [] = Unit {0}
AreWritten (e ∷ es) = IsWritten (statement_of e.0) e.0 × AreWritten es

-- these are the numbers of the explicit entries
abbrev pub IsListed : List (Sides × Proof) → List ℕ → Type 0
IsListed es ns = ns ≡ explicit_numbers (entries_of (map (λ e. proven_of e.0 e.1) es))
