-- Writes with data, from rest to rest: a value for the data of a class, a new class, and an assertion.
--     MergesInto a g s i v h t      v is merged into the data of the class of i
--     with_new_data a g s c         the data where a class is made of the node c
--     AddsWithData a g s c h t      a class is made of the node c
--     AssertsWithData a g s x y h t x is asserted to equal y
--     HasNotedAll g s h t           what was made or has changed waits to be modified
use Rattle.std.specs.Prelude.{◌≡◌, ◌≢◌, ℕ, ◌<◌, List, ◌∷◌, length, map, Contains}
use Rattle.slotted_theory.specs.Nameless.{DTerm}
use Rattle.slotted_theory.specs.Shape.{shape}
use Rattle.slotted_model.specs.Applied.{Applied}
use Rattle.slotted_model.specs.Find.{find_class}
use Rattle.slotted_model.specs.ProofList.{ProofEntry, equation_of, equation_at}
use Rattle.slotted_model.specs.State.{Row, State, normal_node, child_classes}
use Rattle.slotted_model.specs.Changes.{ProofsGrow, with_proofs, StandsAt, Unites}
use Rattle.slotted_model.specs.Rebuild.{IsCongruence}
use Rattle.slotted_model.specs.Adding.{with_new_class, with_new_row, with_assertion}
use Rattle.slotted_model_analyses.specs.Analysis.{Analysis}
use Rattle.slotted_model_analyses.specs.DataPart.{DataPart, with_data, HasNoted, Merges, Carries, RunsWithData, HasNothingLeftWithData}

-- v is merged into the data of the class that i finds, and a run follows that leaves nothing to do
pub data MergesInto {D : Type 0} (a : Analysis D) (g : State) (s : DataPart D) (i : ℕ) (v : D) : State → DataPart D → Type 0 where
  merges_into : {n : ℕ} {m : DataPart D} {h : State} {t : DataPart D} → Merges a g s (find_class g.found i) v m →
      RunsWithData a g m n h t → HasNothingLeftWithData h t →
      MergesInto a g s i v h t

-- what a node makes of the data of the classes that its children find
abbrev pub made_of_found : {D : Type 0} → Analysis D → State → DataPart D → DTerm → D
made_of_found a g s c = a.make c (map (λ k. s.data_of (find_class g.found k)) (child_classes c.args))

-- the class that is made next gets what its node makes, and these classes wait to be modified
abbrev pub with_new_data : {D : Type 0} → Analysis D → State → DataPart D → DTerm → List ℕ → DataPart D
with_new_data a g s c changed =
    record { data_of = with_data s.data_of (length g.nodes) (made_of_found a g s c); pending = s.pending; changed = changed }

-- and its row waits
abbrev pub with_new_pending : {D : Type 0} → Analysis D → State → DataPart D → DTerm → List ℕ → DataPart D
with_new_pending a g s c changed = record (with_new_data a g s c changed) { pending = length g.nodes ∷ s.pending }

-- a class is made of the node c, with the data that this makes, and waits to be modified: it is united with the class of a row of
-- its shape, or its node is filed; then a run follows that leaves nothing to do
pub data AddsWithData {D : Type 0} (a : Analysis D) (g : State) (s : DataPart D) (c : DTerm) : State → DataPart D → Type 0 where
  joins_row : {n : ℕ} {f h : State} {m t : DataPart D} (changed : List ℕ) (proofs : List ProofEntry) (p : ℕ) (r : Row) →
      HasNoted (length g.nodes) s.changed changed →
      ProofsGrow (with_new_class g c).nodes (with_new_class g c).proofs proofs → Contains g.rows r →
      r.shape ≡ shape (normal_node (with_new_class g c) (length g.nodes)) →
      IsCongruence (with_proofs (with_new_class g c) proofs) p (length g.nodes) r.source →
      (u : Unites p (with_proofs (with_new_class g c) proofs) f) →
      Carries a u (with_new_data a g s c changed) m → RunsWithData a f m n h t → HasNothingLeftWithData h t → AddsWithData a g s c h t
  files_row : {n : ℕ} {h : State} {t : DataPart D} (changed : List ℕ) → HasNoted (length g.nodes) s.changed changed →
      ((r : Row) → Contains g.rows r → r.shape ≢ shape (normal_node (with_new_class g c) (length g.nodes))) →
      RunsWithData a (with_new_row (with_new_class g c) (length g.nodes)) (with_new_pending a g s c changed) n h t →
      HasNothingLeftWithData h t → AddsWithData a g s c h t

-- x is asserted to equal y: by an explicit entry, unless the equation stands already; then the union by the entry, and a run that
-- leaves nothing to do
pub data AssertsWithData {D : Type 0} (a : Analysis D) (g : State) (s : DataPart D) (x y : Applied) : State → DataPart D → Type 0 where
  is_new : {n : ℕ} {f h : State} {m t : DataPart D} → ((q : ℕ) → q < length g.proofs → equation_at g.proofs q ≢ equation_of x y) →
      (u : Unites (length g.proofs) (with_assertion g (equation_of x y)) f) → Carries a u s m → RunsWithData a f m n h t →
      HasNothingLeftWithData h t → AssertsWithData a g s x y h t
  stands : {n : ℕ} {f h : State} {m t : DataPart D} (p : ℕ) → StandsAt g p (equation_of x y) → (u : Unites p g f) → Carries a u s m →
      RunsWithData a f m n h t →
      HasNothingLeftWithData h t → AssertsWithData a g s x y h t

-- all classes wait to be modified that did, that were made, or whose data has changed
pub record HasNotedAll {D : Type 0} (g : State) (s : DataPart D) (h : State) (t : DataPart D) : Type 0 where
  pub kept : (i : ℕ) → Contains s.changed i → Contains t.changed i
  pub noted : (i : ℕ) → i < length h.nodes → ¬ Contains t.changed i → (i < length g.nodes) × (t.data_of i ≡ s.data_of i)
