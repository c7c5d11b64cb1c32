-- Sound storage: what the entries and the proof list of each graph keep, and a whole union.
use Rattle.std.specs.Prelude.{◌≡◌, ℕ, List, [], ◌∷◌, ◌++◌, length}
use Rattle.slotted_theory.specs.Nameless.{DTerm}
use Rattle.slotted_model.specs.Applied.{Applied}
use Rattle.slotted_model.specs.Classes.{Canonical}
use Rattle.slotted_model.specs.Find.{Entry, find, Linked}
use Rattle.slotted_model.specs.Link.{with_link, Refines}
use Rattle.slotted_model.specs.ProofList.{ProofEntry, Proved, Exact}

-- canonical nodes, find entries that lead to live classes, proved entries of the proof list, and exact proofs of the find entries
pub record Sound (nodes : List DTerm) (found : List Entry) (proofs : List ProofEntry) : Type 0 where
  pub canonical : Canonical nodes
  pub linked : Linked nodes found
  pub proved : Proved nodes proofs
  pub exact : Exact nodes found proofs

-- a union of two ids by an equation of their found classes: the equation is entered, the class on its left dies and leads to the other, and the ids find alike
pub record United (nodes : List DTerm) (found : List Entry) (proofs : List ProofEntry) (entry : ProofEntry) (moment : ℕ) (a b : Applied) : Type 0 where
  pub sound : Sound nodes (with_link nodes found entry.equation (length proofs) moment) (proofs ++ entry ∷ [])
  pub refines : Refines nodes found (with_link nodes found entry.equation (length proofs) moment)
  pub alike : find (with_link nodes found entry.equation (length proofs) moment) a ≡ find (with_link nodes found entry.equation (length proofs) moment) b
