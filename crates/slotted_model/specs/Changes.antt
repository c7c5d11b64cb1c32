-- Changes of a graph: what each of them keeps, the two events with what then waits, and union by an entry of the proof list.
--     GoesOn older newer            classes, proofs and symmetries stay, and finds go on from what they found
--     IsEvent older newer           so they do, and the size falls
--     linked_state, dropped_state   a class dies and leads to another; a class drops slots; and the rows over the class wait
--     Unites p g h                  the union by the entry p leads from g to h
--     HasUnited p g h               what holds of h then
use Rattle.std.specs.Prelude.{◌≡◌, ◌≢◌, ℕ, ◌<◌, List, [], ◌∷◌, ◌++◌, length, Contains, ◌⊎◌}
use Rattle.std.specs.Map.{keys_of, values_of}
use Rattle.slotted_theory.specs.Nameless.{DTerm}
use Rattle.slotted_model.specs.Applied.{Applied}
use Rattle.slotted_model.specs.Classes.{canonical_node, IsFull}
use Rattle.slotted_model.specs.Correspondence.{identity}
use Rattle.slotted_model.specs.Find.{used_slots, find}
use Rattle.slotted_model.specs.Link.{found_equation, kept_equation, IsLater, with_link, with_slots}
use Rattle.slotted_model.specs.ProofList.{Equation, ProofEntry, explicit, equation_of, turned_equation, equation_at, step_at, Proved, asserted}
use Rattle.slotted_model.specs.State.{Symmetry, State, sources, HasTouched}
use Rattle.slotted_model.specs.Rest.{IsValidIn, UpToSymmetries, LinkedTo, Sane, size}

-- the newer graph has the classes, proved equations and listed symmetries of the older one, and its finds go on from what the older one found
pub record GoesOn (older newer : State) : Type 0 where
  pub classes : (i : ℕ) → i < length older.nodes → (i < length newer.nodes) × (canonical_node newer.nodes i ≡ canonical_node older.nodes i)
  pub finds : (a : Applied) → IsValidIn older a → IsValidIn newer a × (find newer.found a ≡ find newer.found (find older.found a))
  pub proofs : (p : ℕ) → p < length older.proofs → (p < length newer.proofs) × (equation_at newer.proofs p ≡ equation_at older.proofs p)
  pub symmetries : (y : Symmetry) → Contains older.symmetries y → Contains newer.symmetries y

-- an event: a sane graph that goes on from the older one, and is smaller
pub record IsEvent (older newer : State) : Type 0 where
  pub sane : Sane newer
  pub goes_on : GoesOn older newer
  pub smaller : size newer < size older

-- the left class of an equation dies and leads to the right one, and the rows over it wait
abbrev pub linked_state : State → Equation → ℕ → ℕ → List ℕ → State
linked_state g e proof moment waiting = record g { found = with_link g.nodes g.found e proof moment; waiting = waiting }

-- a live class keeps these slots alone, and the rows over it wait
abbrev pub dropped_state : State → ℕ → List ℕ → ℕ → List ℕ → State
dropped_state g c slots proof waiting = record g { found = with_slots g.found c slots proof; waiting = waiting }

-- more entries, which assert nothing, stand after those of a proof list
pub record ProofsGrow (nodes : List DTerm) (older newer : List ProofEntry) : Type 0 where
  pub more : List ProofEntry
  pub is : newer ≡ older ++ more
  pub proved : Proved nodes newer
  pub asserts_nothing : asserted nodes newer ≡ asserted nodes older

-- the graph with this proof list
abbrev pub with_proofs : State → List ProofEntry → State
with_proofs g proofs = record g { proofs = proofs }

-- an equation of a class with itself as a symmetry of the slots that it has
abbrev pub symmetry_of : State → Equation → ℕ → Symmetry
symmetry_of g e proof = record { class = e.left; slots = used_slots g.found e.left; pairs = e.pairs; proof = proof }

-- the graph with one more listed symmetry
abbrev pub with_symmetry : State → Symmetry → State
with_symmetry g y = record g { symmetries = g.symmetries ++ y ∷ [] }

-- what an entry of the proof list says of the classes that its sides find
abbrev pub found_entry : State → ℕ → Equation
found_entry g p = found_equation g.nodes g.found (equation_at g.proofs p)

-- the equation stands at this number
abbrev pub StandsAt : State → ℕ → Equation → Type 0
StandsAt g n e = (n < length g.proofs) × (equation_at g.proofs n ≡ e)

-- each slot of either class has a partner
pub record PairsAll (g : State) (e : Equation) : Type 0 where
  pub left : (s : ℕ) → Contains (used_slots g.found e.left) s → Contains (keys_of e.pairs) s
  pub right : (t : ℕ) → Contains (used_slots g.found e.right) t → Contains (values_of e.pairs) t

-- a slot of either class has no partner
abbrev pub Lacks : State → Equation → Type 0
Lacks g e = ((s : ℕ) × Contains (used_slots g.found e.left) s × (¬ Contains (keys_of e.pairs) s)) ⊎
    ((t : ℕ) × Contains (used_slots g.found e.right) t × (¬ Contains (values_of e.pairs) t))

-- the symmetry says what the equation says of its class and of the slots that it has
pub record IsSymmetryOf (g : State) (e : Equation) (y : Symmetry) : Type 0 where
  pub class : y.class ≡ e.left
  pub slots : y.slots ≡ used_slots g.found e.left
  pub pairs : y.pairs ≡ e.pairs

-- union by the entry p leads from one graph to another. While a slot of the classes that its sides find has no partner, it is dropped, on the left first;
-- then one of two classes dies, or a symmetry of one class is listed, if it is not; and it ends where the sides find alike
pub data Unites (p : ℕ) : State → State → Type 0 where
  finds_alike : {g : State} → (found_entry g p).left ≡ (found_entry g p).right →
      (found_entry g p).pairs ≡ identity (used_slots g.found (found_entry g p).left) → Unites p g g
  proves : {g h : State} (proofs : List ProofEntry) → ProofsGrow g.nodes g.proofs proofs → Unites p (with_proofs g proofs) h → Unites p g h
  drops_left : {g h : State} (n s : ℕ) (w : List ℕ) → Contains (used_slots g.found (found_entry g p).left) s →
      ¬ Contains (keys_of (found_entry g p).pairs) s → StandsAt g n (kept_equation (found_entry g p)) →
      HasTouched g (found_entry g p).left w →
      Unites p (dropped_state g (found_entry g p).left (keys_of (found_entry g p).pairs) n w) h → Unites p g h
  drops_right : {g h : State} (n t : ℕ) (w : List ℕ) →
      ((s : ℕ) → Contains (used_slots g.found (found_entry g p).left) s → Contains (keys_of (found_entry g p).pairs) s) →
      Contains (used_slots g.found (found_entry g p).right) t → ¬ Contains (values_of (found_entry g p).pairs) t →
      StandsAt g n (kept_equation (turned_equation g.nodes (found_entry g p))) →
      HasTouched g (found_entry g p).right w →
      Unites p (dropped_state g (found_entry g p).right (keys_of (turned_equation g.nodes (found_entry g p)).pairs) n w) h →
      Unites p g h
  left_dies : {g : State} (n moment : ℕ) (w : List ℕ) → (found_entry g p).left ≢ (found_entry g p).right →
      PairsAll g (found_entry g p) → StandsAt g n (found_entry g p) → IsLater g.found moment → HasTouched g (found_entry g p).left w →
      Unites p g (linked_state g (found_entry g p) n moment w)
  right_dies : {g : State} (n moment : ℕ) (w : List ℕ) → (found_entry g p).left ≢ (found_entry g p).right →
      PairsAll g (found_entry g p) → StandsAt g n (turned_equation g.nodes (found_entry g p)) → IsLater g.found moment →
      HasTouched g (found_entry g p).right w →
      Unites p g (linked_state g (turned_equation g.nodes (found_entry g p)) n moment w)
  lists : {g : State} (n : ℕ) → (found_entry g p).left ≡ (found_entry g p).right → PairsAll g (found_entry g p) →
      (found_entry g p).pairs ≢ identity (used_slots g.found (found_entry g p).left) →
      ((y : Symmetry) → Contains g.symmetries y → ¬ IsSymmetryOf g (found_entry g p) y) → StandsAt g n (found_entry g p) →
      Unites p g (with_symmetry g (symmetry_of g (found_entry g p) n))
  is_listed : {g : State} (y : Symmetry) → (found_entry g p).left ≡ (found_entry g p).right → PairsAll g (found_entry g p) →
      Contains g.symmetries y → IsSymmetryOf g (found_entry g p) y → Unites p g g

-- after the union by the entry p: classes and rows are the same, nothing more is asserted, the sides of the entry are equal up to listed symmetries,
-- and if the size has not fallen, finds and what waits are the same too
pub record HasUnited (p : ℕ) (older newer : State) : Type 0 where
  pub sane : Sane newer
  pub goes_on : GoesOn older newer
  pub same_nodes : newer.nodes ≡ older.nodes
  pub same_rows : newer.rows ≡ older.rows
  pub still_waits : (o : ℕ) → Contains older.waiting o → Contains newer.waiting o
  pub asserts_nothing : (q : ℕ) → q < length newer.proofs → step_at newer.proofs q ≡ explicit → (q < length older.proofs) ×
      (step_at older.proofs q ≡ explicit)
  pub same_asserted : asserted newer.nodes newer.proofs ≡ asserted older.nodes older.proofs
  pub equal : (a b : Applied) → IsFull older.nodes a → IsFull older.nodes b → equation_of a b ≡ equation_at older.proofs p →
      UpToSymmetries newer a b
  pub smaller : (size newer < size older) ⊎ ((newer.found ≡ older.found) × (newer.waiting ≡ older.waiting))

-- the graph represents what was added and asserted, where the entry p need not be respected yet
pub record RepresentsBut (p : ℕ) (g : State) : Type 0 where
  pub linked : (i : ℕ) → i < length g.nodes → (o : ℕ) × Contains (sources g.rows) o × LinkedTo g i o
  pub asserted : (q : ℕ) → q < length g.proofs → q ≢ p → step_at g.proofs q ≡ explicit →
      (a b : Applied) → IsFull g.nodes a → IsFull g.nodes b → equation_of a b ≡ equation_at g.proofs q → UpToSymmetries g a b

-- the proof list and the listed symmetries are what they were, with more at their ends
pub record GrowsAtEnds (older newer : State) : Type 0 where
  pub more : List ProofEntry
  pub proofs : newer.proofs ≡ older.proofs ++ more
  pub listed : List Symmetry
  pub symmetries : newer.symmetries ≡ older.symmetries ++ listed
