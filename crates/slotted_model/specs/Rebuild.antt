-- Rebuilding: the turn of a class whose node waits, the acting on a symmetry that is not aligned, and runs of both.
--     Turn g h     one turn leads from g to h
--     Acts g h     acting on one listed symmetry leads from g to h
--     Runs n g h   n turns, and acts between them, lead from g to h
--     HasTurned    what holds after a turn
use Rattle.std.specs.Prelude.{◌≡◌, ◌≢◌, ℕ, suc, ◌<◌, ◌≤◌, List, [], map, filter, length, Contains, cond, nat_eq, not, ◌⊎◌}
use Rattle.slotted_theory.specs.Shape.{shape}
use Rattle.slotted_model.specs.Ascending.{names}
use Rattle.slotted_model.specs.Applied.{Applied, map_on}
use Rattle.slotted_model.specs.Classes.{IsFull}
use Rattle.slotted_model.specs.Find.{used_slots}
use Rattle.slotted_model.specs.Normal.{HasNormalTwin}
use Rattle.slotted_model.specs.ProofList.{ProofEntry, explicit, equation_of, step_at, asserted}
use Rattle.slotted_model.specs.State.{Row, Symmetry, State, normal_node, name_numbered}
use Rattle.slotted_model.specs.Rest.{IsAligned, Sane, Represents, size}
use Rattle.slotted_model.specs.Changes.{GoesOn, ProofsGrow, with_proofs, StandsAt, Unites}

-- a list without a number
abbrev pub without : ℕ → List ℕ → List ℕ
without o xs = filter (λ x. not (nat_eq x o)) xs

-- the rows of other sources
abbrev pub without_row : ℕ → List Row → List Row
without_row o rows = filter (λ (r : Row). not (nat_eq r.source o)) rows

-- a row in the place of that of its source
abbrev pub with_row : Row → List Row → List Row
with_row q rows = map (λ (r : Row). cond (nat_eq r.source q.source) q r) rows

-- the row by which the canonical node of a class in normal form is filed
abbrev pub row_for : State → ℕ → Row
row_for g o = record { shape = shape (normal_node g o); source = o; slots = map_on (name_numbered (normal_node g o)) (names (shape (normal_node g o))) }

-- the row of o is gone, and o waits no more
abbrev pub removed_state : State → ℕ → State
removed_state g o = record g { rows = without_row o g.rows; waiting = without o g.waiting }

-- the node of o is filed anew, and o waits no more
abbrev pub refiled_state : State → ℕ → State
refiled_state g o = record g { rows = with_row (row_for g o) g.rows; waiting = without o g.waiting }

-- the node of o in normal form has each slot that o uses
abbrev pub IsCovered : State → ℕ → Type 0
IsCovered g o = (s : ℕ) → Contains (used_slots g.found o) s → Contains (names (normal_node g o)) s

-- the entry p says that the classes i and j are equal by one normal form of their nodes, and shares no other names
pub record IsCongruence (g : State) (p i j : ℕ) : Type 0 where
  pub left : Applied
  pub right : Applied
  pub left_class : left.0 ≡ i
  pub right_class : right.0 ≡ j
  pub left_full : IsFull g.nodes left
  pub twins : HasNormalTwin g.nodes g.found left right
  pub stands : StandsAt g p (equation_of left right)

-- entries can come by which nothing is asserted, and the congruence stands then
pub record CongruenceEntered (g : State) (i j : ℕ) : Type 0 where
  pub proofs : List ProofEntry
  pub grow : ProofsGrow g.nodes g.proofs proofs
  pub number : ℕ
  pub congruence : IsCongruence (with_proofs g proofs) number i j

-- the turn of a class o that waits: if its node in normal form lacks a slot s, it is united with itself, by which the slot goes, and waits on;
-- if another row has the shape, the two classes are united, and the row goes; else the node is filed anew. Entries of the proof list may come first
pub data Turn : State → State → Type 0 where
  enters : {g h : State} (proofs : List ProofEntry) → ProofsGrow g.nodes g.proofs proofs → Turn (with_proofs g proofs) h → Turn g h
  narrows : {g h : State} (o p s : ℕ) → Contains g.waiting o → Contains (used_slots g.found o) s →
      ¬ Contains (names (normal_node g o)) s → IsCongruence g p o o → Unites p g h → Turn g h
  unites_parents : {g h : State} (o p : ℕ) (r : Row) → Contains g.waiting o → Contains g.rows r → r.source ≢ o →
      r.shape ≡ shape (normal_node g o) → IsCongruence g p o r.source → Unites p g h → Turn g (removed_state h o)
  refiles : {g : State} (o : ℕ) → Contains g.waiting o → IsCovered g o →
      ((r : Row) → Contains g.rows r → r.source ≢ o → r.shape ≢ shape (normal_node g o)) → Turn g (refiled_state g o)

-- a listed symmetry that is not aligned is acted on by its own proof
pub data Acts : State → State → Type 0 where
  acts : {g h : State} (y : Symmetry) → Contains g.symmetries y → ¬ IsAligned g y → Unites y.proof g h → Acts g h

-- turns, and acts between them
pub data Runs (f : State) : ℕ → State → Type 0 where
  starts : Runs f 0 f
  takes_turn : {n : ℕ} {g h : State} → Runs f n g → Turn g h → Runs f (suc n) h
  takes_act : {n : ℕ} {g h : State} → Runs f n g → Acts g h → Runs f n h

-- nothing waits, and each listed symmetry is aligned
abbrev pub HasNothingLeft : State → Type 0
HasNothingLeft g = (g.waiting ≡ []) × ((y : Symmetry) → Contains g.symmetries y → IsAligned g y)

-- the newer graph is sane, has the same classes, goes on from the older one, represents what that did, asserts nothing more, and has no more rows
pub record IsRebuilt (older newer : State) : Type 0 where
  pub sane : Sane newer
  pub same_nodes : newer.nodes ≡ older.nodes
  pub goes_on : GoesOn older newer
  pub represents : Represents older → Represents newer
  pub asserts_nothing : (q : ℕ) → q < length newer.proofs → step_at newer.proofs q ≡ explicit → (q < length older.proofs) ×
      (step_at older.proofs q ≡ explicit)
  pub same_asserted : asserted newer.nodes newer.proofs ≡ asserted older.nodes older.proofs
  pub rows : length newer.rows ≤ length older.rows

-- so it is after a turn of a class that waited, and the size has fallen, or it is the same and one class less waits
pub record HasTurned (older newer : State) : Type 0 where
  pub rebuilt : IsRebuilt older newer
  pub waited : 0 < length older.waiting
  pub falls : (size newer < size older) ⊎ ((size newer ≡ size older) × (suc (length newer.waiting) ≡ length older.waiting))

-- so it is after an act, and the size has fallen
pub record HasActed (older newer : State) : Type 0 where
  pub rebuilt : IsRebuilt older newer
  pub smaller : size newer < size older
