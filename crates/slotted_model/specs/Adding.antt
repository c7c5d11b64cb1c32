-- From rest to rest: a new class with its node, and an assertion with its union.
--     with_new_class g c   the graph with one more class, of the canonical node c, which no row files yet
--     with_new_row g i     the node of the class i is filed, and waits
--     with_assertion g e   the graph with one more explicit entry
--     Adds g c h           making a class of the node c leads from g to h
--     Asserts g a b h      asserting that a equals b leads from g to h
--     HasAdded, HasAsserted   what holds then
--     KeepsLookUps g c h   no look-up has changed
use Rattle.std.specs.Prelude.{◌≡◌, ◌≢◌, ℕ, ◌<◌, ◌≤◌, List, [], ◌∷◌, ◌++◌, length, Contains, Some, ◌⊎◌}
use Rattle.slotted_theory.specs.Nameless.{DTerm}
use Rattle.slotted_theory.specs.Shape.{shape}
use Rattle.slotted_model.specs.Applied.{Applied, EachChild}
use Rattle.slotted_model.specs.Find.{find}
use Rattle.slotted_model.specs.Link.{reflexive_equation, with_new_entry}
use Rattle.slotted_model.specs.ProofList.{Equation, ProofEntry, explicit, reflexive, equation_of, equation_at, step_at, term_pair, asserted}
use Rattle.slotted_model.specs.State.{Row, State, normal_node, look_up_node, look_up_tree}
use Rattle.slotted_model.specs.Rest.{IsValidIn, AtRest, size, lives_from, slots_from, FoundTogether}
use Rattle.slotted_model.specs.Changes.{GoesOn, StandsAt, ProofsGrow, with_proofs, Unites, GrowsAtEnds}
use Rattle.slotted_model.specs.Rebuild.{row_for, IsCongruence, Runs, HasNothingLeft}

-- one more class, of this canonical node, with all its slots, which equals itself
abbrev pub with_new_class : State → DTerm → State
with_new_class g c = record g {
  nodes = g.nodes ++ c ∷ [];
  found = with_new_entry (g.nodes ++ c ∷ []) g.found (length g.proofs);
  proofs = g.proofs ++ record { equation = reflexive_equation (g.nodes ++ c ∷ []) (length g.nodes); step = reflexive } ∷ [];
}

-- the node of the class i is filed, and waits
abbrev pub with_new_row : State → ℕ → State
with_new_row g i = record g { rows = row_for g i ∷ g.rows; waiting = i ∷ g.waiting }

-- the row of a class is filed, and the class does not wait
abbrev pub with_quiet_row : State → ℕ → State
with_quiet_row g i = record g { rows = row_for g i ∷ g.rows }

-- one more explicit entry
abbrev pub with_assertion : State → Equation → State
with_assertion g e = record g { proofs = g.proofs ++ record { equation = e; step = explicit } ∷ [] }

-- a class is made of the node c: if a row has the shape of its normal form, it is united with the class of that, else its node is
-- filed; then a run follows that leaves nothing to do
pub data Adds (g : State) (c : DTerm) : State → Type 0 where
  joins_row : {n : ℕ} {f h : State} (proofs : List ProofEntry) (p : ℕ) (r : Row) →
      ProofsGrow (with_new_class g c).nodes (with_new_class g c).proofs proofs → Contains g.rows r →
      r.shape ≡ shape (normal_node (with_new_class g c) (length g.nodes)) →
      IsCongruence (with_proofs (with_new_class g c) proofs) p (length g.nodes) r.source →
      Unites p (with_proofs (with_new_class g c) proofs) f → Runs f n h → HasNothingLeft h → Adds g c h
  files_row : {n : ℕ} {h : State} → ((r : Row) → Contains g.rows r → r.shape ≢ shape (normal_node (with_new_class g c) (length g.nodes))) →
      Runs (with_new_row (with_new_class g c) (length g.nodes)) n h → HasNothingLeft h → Adds g c h

-- a is asserted to equal b: by an explicit entry, unless the equation stands already; then the union by the entry, and a run that leaves nothing to do
pub data Asserts (g : State) (a b : Applied) : State → Type 0 where
  is_new : {n : ℕ} {f h : State} → ((q : ℕ) → q < length g.proofs → equation_at g.proofs q ≢ equation_of a b) →
      Unites (length g.proofs) (with_assertion g (equation_of a b)) f → Runs f n h → HasNothingLeft h → Asserts g a b h
  stands : {n : ℕ} {f h : State} (p : ℕ) → StandsAt g p (equation_of a b) → Unites p g f → Runs f n h → HasNothingLeft h → Asserts g a b h

-- after a class was made of the node c: all is at rest, the class is there, and nothing more is asserted
pub record HasAdded (g : State) (c : DTerm) (h : State) : Type 0 where
  pub rest : AtRest h
  pub goes_on : GoesOn g h
  pub nodes : h.nodes ≡ g.nodes ++ c ∷ []
  pub same_asserted : asserted h.nodes h.proofs ≡ asserted g.nodes g.proofs

-- after a was asserted to equal b: all is at rest, the classes are the same, both are found together, their equation stands, and no more than it is asserted
pub record HasAsserted (g : State) (a b : Applied) (h : State) : Type 0 where
  pub rest : AtRest h
  pub goes_on : GoesOn g h
  pub same_nodes : h.nodes ≡ g.nodes
  pub together : FoundTogether h a b
  pub stands : (p : ℕ) × StandsAt h p (equation_of a b)
  pub asserted_list : (asserted h.nodes h.proofs ≡ asserted g.nodes g.proofs) ⊎
      (asserted h.nodes h.proofs ≡ asserted g.nodes g.proofs ++ term_pair g.nodes (equation_of a b) ∷ [])

-- after a was asserted to equal b: lists have grown at their ends alone; where the equation stood nowhere it is the next entry, an explicit one;
-- and neither the size nor a count has risen
pub record IsExactAssertion (g : State) (a b : Applied) (h : State) : Type 0 where
  pub grows : GrowsAtEnds g h
  pub is_explicit : ((q : ℕ) → q < length g.proofs → equation_at g.proofs q ≢ equation_of a b) →
      (step_at h.proofs (length g.proofs) ≡ explicit) × (equation_at h.proofs (length g.proofs) ≡ equation_of a b)
  pub smaller : size h ≤ size g
  pub lives : lives_from 0 h.found ≤ lives_from 0 g.found
  pub slots : lives_from 0 h.found ≡ lives_from 0 g.found → slots_from 0 h.found ≤ slots_from 0 g.found

-- a class was made of the node c, and nothing else has changed: valid ids find what they found, nodes and trees that were looked
-- up are looked up as the same ids, and c is looked up as the new class
pub record KeepsLookUps (g : State) (c : DTerm) (h : State) : Type 0 where
  pub finds : (a : Applied) → IsValidIn g a → find h.found a ≡ find g.found a
  pub nodes : (d : DTerm) → EachChild (IsValidIn g) d.args → (a : Applied) → look_up_node g d ≡ Some a → look_up_node h d ≡ Some a
  pub trees : (t : DTerm) (a : Applied) → look_up_tree g t ≡ Some a → look_up_tree h t ≡ Some a
  pub new_class : (a : Applied) × (look_up_node h c ≡ Some a) × (a.0 ≡ length g.nodes)

-- both are at rest, and finds and look-ups are the same in both
pub record SameAnswers (g h : State) : Type 0 where
  pub rest : AtRest h
  pub goes_on : GoesOn g h
  pub finds : (a : Applied) → IsValidIn g a → find h.found a ≡ find g.found a
  pub look_ups : (d : DTerm) → EachChild (IsValidIn g) d.args → look_up_node h d ≡ look_up_node g d
  pub same_size : size h ≡ size g
