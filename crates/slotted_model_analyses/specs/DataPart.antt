-- What an analysis adds to a graph, and how data goes along with each change of the graph.
--     DataPart D             data for each class, what waits, and the classes that wait to be modified
--     made a s d             what a node makes of the data of its children's classes
--     Merges a g s c v t     merging v into the data of the class c leads from s to t
--     Carries a u s t        the data goes from s to t along the union u
--     Follows a k s t        and along the turn k
--     TakesData a g s t      the turn of a row that waits for data alone
--     RunsWithData a f s     runs with their data
--     HasData a g s          at each row that does not wait merging what its node makes changes nothing
--     size_with_data a g s   live classes, their slots, and the heights of their data
use Rattle.std.specs.Prelude.{◌≡◌, ◌≢◌, ◌⊎◌, ℕ, suc, ◌+◌, ◌<◌, List, [], ◌∷◌, length, map, Contains, cond, nat_eq}
use Rattle.slotted_theory.specs.Nameless.{DTerm}
use Rattle.slotted_model.specs.Correspondence.{AllDifferent}
use Rattle.slotted_model.specs.Find.{Entry, find_class}
use Rattle.slotted_model.specs.State.{Row, State, sources, child_classes, HasTouched}
use Rattle.slotted_model.specs.Rest.{AtRest, size}
use Rattle.slotted_model.specs.Changes.{found_entry, Unites, finds_alike, proves, drops_left, drops_right, left_dies, right_dies, lists, is_listed}
use Rattle.slotted_model.specs.Rebuild.{without, row_for, refiled_state, Turn, enters, narrows, unites_parents, refiles, Acts, acts, HasNothingLeft}
use Rattle.slotted_model.specs.Extraction.{row_class}
use Rattle.slotted_model_analyses.specs.Analysis.{Analysis, Absorbs}

-- the data of each class, the sources of all rows that wait, as a whole or for data alone, and the classes that wait to be
-- modified, since they were made or their data has changed
pub record DataPart (D : Type 0) : Type 0 where
  pub data_of : ℕ → D
  pub pending : List ℕ
  pub changed : List ℕ

-- the data with v at the class c
abbrev pub with_data : {D : Type 0} → (ℕ → D) → ℕ → D → ℕ → D
with_data δ c v i = cond (nat_eq i c) v (δ i)

-- what a node makes of the data of its children's classes
abbrev pub made : {D : Type 0} → Analysis D → DataPart D → DTerm → D
made a s d = a.make d (map s.data_of (child_classes d.args))

-- the graph in which all that waits, waits as a whole
abbrev pub with_pending : {D : Type 0} → State → DataPart D → State
with_pending g s = record g { waiting = s.pending }

-- the row of o waits no more
abbrev pub taken : {D : Type 0} → DataPart D → ℕ → DataPart D
taken s o = record s { pending = without o s.pending }

-- the class c waits to be modified, beside those that did, in whatever order
pub record HasNoted (c : ℕ) (older newer : List ℕ) : Type 0 where
  pub once : AllDifferent newer
  pub has : Contains newer c
  pub kept : (i : ℕ) → Contains older i → Contains newer i
  pub from : (i : ℕ) → Contains newer i → Contains older i ⊎ (i ≡ c)

-- v is merged into the data of the class c: if this changes it, the rows over the class wait, and the class waits to be modified
pub data Merges {D : Type 0} (a : Analysis D) (g : State) (s : DataPart D) (c : ℕ) (v : D) : DataPart D → Type 0 where
  absorbed : Absorbs a (s.data_of c) v → Merges a g s c v s
  lowered : (pending changed : List ℕ) → ¬ Absorbs a (s.data_of c) v → HasTouched (with_pending g s) c pending →
      HasNoted c s.changed changed →
      Merges a g s c v (record { data_of = with_data s.data_of c (a.merge (s.data_of c) v); pending = pending; changed = changed })

-- the class c dies and leads to d: the rows over it wait, and its data is merged into that of d
abbrev pub CarriesLink : {D : Type 0} → Analysis D → State → ℕ → ℕ → DataPart D → DataPart D → Type 0
CarriesLink a g c d s t = (pending : List ℕ) × HasTouched (with_pending g s) c pending
    × Merges a g (record s { pending = pending }) d (s.data_of c) t

-- the data along a union: where slots are dropped, the rows over the class wait
abbrev pub Carries : {D : Type 0} → Analysis D → {p : ℕ} {g h : State} → Unites p g h → DataPart D → DataPart D → Type 0
Carries a (finds_alike l i) s t = t ≡ s
Carries a (proves proofs grow u) s t = Carries a u s t
Carries a {p} (drops_left {g = g} n x w used lacks at touched u) s t = (pending : List ℕ)
    × HasTouched (with_pending g s) (found_entry g p).left pending × Carries a u (record s { pending = pending }) t
Carries a {p} (drops_right {g = g} n x w all used lacks at touched u) s t = (pending : List ℕ)
    × HasTouched (with_pending g s) (found_entry g p).right pending × Carries a u (record s { pending = pending }) t
Carries a {p} (left_dies {g = g} n moment w differ all at later touched) s t =
    CarriesLink a g (found_entry g p).left (found_entry g p).right s t
Carries a {p} (right_dies {g = g} n moment w differ all at later touched) s t =
    CarriesLink a g (found_entry g p).right (found_entry g p).left s t
Carries a (lists n same all moves new at) s t = t ≡ s
Carries a (is_listed y same all c is) s t = t ≡ s

-- the data along a turn: where a node is filed anew, what it makes is merged into the data of its class
abbrev pub Follows : {D : Type 0} → Analysis D → {g h : State} → Turn g h → DataPart D → DataPart D → Type 0
Follows a (enters proofs grow k) s t = Follows a k s t
Follows a (narrows o p x waits used lacks congruence u) s t = Carries a u s t
Follows {D} a (unites_parents o p r waits filed differ same congruence u) s t = (m : DataPart D) × Carries a u s m × (t ≡ taken m o)
Follows a (refiles {g = g} o waits covered alone) s t =
    Merges a (refiled_state g o) (taken s o) (find_class g.found o) (made a s (row_for g o).shape) t

-- the data along an act
abbrev pub FollowsAct : {D : Type 0} → Analysis D → {g h : State} → Acts g h → DataPart D → DataPart D → Type 0
FollowsAct a (acts y listed unaligned u) s t = Carries a u s t

-- the turn of a row that waits for data alone: what its node makes is merged into the data of its class
pub data TakesData {D : Type 0} (a : Analysis D) (g : State) (s : DataPart D) : DataPart D → Type 0 where
  takes : {t : DataPart D} (r : Row) → Contains g.rows r → Contains s.pending r.source → ¬ Contains g.waiting r.source →
      Merges a g (taken s r.source) (row_class g r) (made a s r.shape) t → TakesData a g s t

-- turns, turns for data alone, and acts between them, with their data
pub data RunsWithData {D : Type 0} (a : Analysis D) (f : State) (s : DataPart D) : ℕ → State → DataPart D → Type 0 where
  starts : RunsWithData a f s 0 f s
  takes_turn : {n : ℕ} {g h : State} {t u : DataPart D} → RunsWithData a f s n g t → (k : Turn g h) → Follows a k t u →
      RunsWithData a f s (suc n) h u
  takes_data : {n : ℕ} {g : State} {t u : DataPart D} → RunsWithData a f s n g t → TakesData a g t u → RunsWithData a f s (suc n) g u
  takes_act : {n : ℕ} {g h : State} {t u : DataPart D} → RunsWithData a f s n g t → (k : Acts g h) → FollowsAct a k t u →
      RunsWithData a f s n h u

-- what holds through all changes: sources of rows wait, each once, those too that wait as a whole; at each other row merging what
-- its node makes into the data of its class changes nothing; and classes wait to be modified, each once
pub record HasData {D : Type 0} (a : Analysis D) (g : State) (s : DataPart D) : Type 0 where
  pub waits_once : AllDifferent s.pending
  pub waits_whole : (o : ℕ) → Contains g.waiting o → Contains s.pending o
  pub waits_for_row : (o : ℕ) → Contains s.pending o → Contains (sources g.rows) o
  pub absorbs_made : (r : Row) → Contains g.rows r → ¬ Contains s.pending r.source →
      Absorbs a (s.data_of (row_class g r)) (made a s r.shape)
  pub changed_once : AllDifferent s.changed
  pub changed_in_range : (i : ℕ) → Contains s.changed i → i < length g.nodes

-- the heights of the data of live classes, where i is the class of the first entry
abbrev pub heights_from : {D : Type 0} → Analysis D → (ℕ → D) → ℕ → List Entry → ℕ
heights_from a δ i [] = 0
heights_from a δ i (e ∷ found) = cond (nat_eq e.class i) (a.height (δ i)) 0 + heights_from a δ (suc i) found

-- the live classes, their slots, and the heights of their data
abbrev pub size_with_data : {D : Type 0} → Analysis D → State → DataPart D → ℕ
size_with_data a g s = size g + heights_from a s.data_of 0 g.found

-- the data of each class of the older graph has only gone down: what its class has now absorbs it
abbrev pub DataGoesDown : {D : Type 0} → Analysis D → State → DataPart D → State → DataPart D → Type 0
DataGoesDown a g s h t = (i : ℕ) → i < length g.nodes → Absorbs a (t.data_of (find_class h.found i)) (s.data_of (find_class g.found i))

-- the data of each class has only gone down, and the classes that wait to be modified are those that did, and those whose data
-- has changed
pub record GoesDown {D : Type 0} (a : Analysis D) (s t : DataPart D) : Type 0 where
  pub lower : (i : ℕ) → Absorbs a (t.data_of i) (s.data_of i)
  pub once : AllDifferent s.changed → AllDifferent t.changed
  pub kept : (i : ℕ) → Contains s.changed i → Contains t.changed i
  pub noted : (i : ℕ) → t.data_of i ≢ s.data_of i → Contains t.changed i
  pub from : (i : ℕ) → Contains t.changed i → Contains s.changed i ⊎ (t.data_of i ≢ s.data_of i)

-- nothing waits, not for data either, and each listed symmetry is aligned
abbrev pub HasNothingLeftWithData : {D : Type 0} → State → DataPart D → Type 0
HasNothingLeftWithData g s = HasNothingLeft g × (s.pending ≡ [])

-- at rest, with data
pub record RestsWithData {D : Type 0} (a : Analysis D) (g : State) (s : DataPart D) : Type 0 where
  pub rest : AtRest g
  pub has : HasData a g s
  pub nothing_waits : s.pending ≡ []
