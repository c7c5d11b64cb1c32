-- What the nodes of classes make of the data that is there.
--     data_in x vs i        the data of the class i, and x where there is no class
--     children_at k i       the classes of the children of the node of the class i
--     source_class es n c   what c finds, if that is one of n classes, else c itself
--     made_in a k x vs i    what the node of the class i makes of the data of these
--     HasHeights a          some data has a height above 0
--     AddsNew a k d e       from d to e each class that had no data has what its node made
use Rattle.std.specs.Prelude.{◌≡◌, ◌⊎◌, ◌<◌, ◌≤◌, ℕ, List, ◌++◌, length, map, Bool, true, false, cond, nat_lt, Contains, slice_index_or}
use Rattle.slotted_nodes.specs.Form.{Form}
use Rattle.slotted_model.specs.Correspondence.{AllDifferent}
use Rattle.slotted_model.specs.Find.{Entry, find_class}
use Rattle.slotted_classes.specs.Kept.{Kept, node_at, entries_of}
use Rattle.slotted_hashcons.specs.FiledRows.{key_children}
use Rattle.slotted_outlines.specs.BareNodes.{bare_node}
use Rattle.slotted_data.specs.Meaning.{Meaning}
use Rattle.slotted_data.specs.Held.{Held, users_of, HasNewValue}

abbrev pub data_in : {D : Type 0} → D → List D → ℕ → D
data_in x values i = slice_index_or values i x

abbrev pub children_at : Kept → ℕ → List ℕ
children_at k i = key_children (node_at k i)

-- what c finds, if that is one of the first n classes, else c itself
abbrev pub source_class : List Entry → ℕ → ℕ → ℕ
source_class found n c = cond (nat_lt (find_class found c) n) (find_class found c) c

-- the data of each child of a node, where n classes have data
abbrev pub child_values : {D : Type 0} → Kept → D → List D → ℕ → Form → List D
child_values k x values n f = map (λ c. data_in x values (source_class (entries_of k) n c)) (key_children f)

-- each child of the node has its data in the list
abbrev pub HasChildValues : {D : Type 0} → Kept → List D → Form → List D → Type 0
HasChildValues {D} k values f xs = (x : D) → xs ≡ child_values k x values (length values) f

-- what the node of the class i makes of the data of older classes
abbrev pub made_in : {D : Type 0} → Meaning D → Kept → D → List D → ℕ → D
made_in a k x values i = a.make (bare_node (node_at k i)) (child_values k x values i (node_at k i))

-- some data has a height above 0
abbrev pub HasHeights : {D : Type 0} → Meaning D → Type 0
HasHeights {D} a = (x : D) × (0 < a.height x)

-- the next class gets what its node makes
pub record AddsNext {D : Type 0} (a : Meaning D) (k : Kept) (d e : Held D) : Type 0 where
  pub value : D
  pub is_tall : Bool
  pub new : HasNewValue d e value is_tall
  pub made : (x : D) → value ≡ made_in a k x d.values (length d.values)
  pub low : is_tall ≡ false → a.height value ≡ 0
  pub high : is_tall ≡ true → 0 < a.height value

-- each class that had no data has what its node made, and waits to be modified; no other data has changed
pub record AddsNew {D : Type 0} (a : Meaning D) (k : Kept) (d e : Held D) : Type 0 where
  pub more : List D
  pub values : e.values ≡ d.values ++ more
  pub made : (i : ℕ) → length d.values ≤ i → i < length e.values → (x : D) → data_in x e.values i ≡ made_in a k x e.values i
  pub users : (c : ℕ) → users_of e c ≡ users_of d c
  pub entered : e.entered ≡ d.entered
  pub carried : e.carried ≡ d.carried
  pub counts : e.counts ≡ d.counts
  pub once : AllDifferent d.changed → AllDifferent e.changed
  pub kept : (i : ℕ) → Contains d.changed i → Contains e.changed i
  pub new : (i : ℕ) → length d.values ≤ i → i < length e.values → Contains e.changed i
  pub from : (i : ℕ) → Contains e.changed i → Contains d.changed i ⊎ (i < length e.values)
  pub still_low : e.tall ≡ false → d.tall ≡ false
  pub high : e.tall ≡ true → (d.tall ≡ true) ⊎ HasHeights a
  pub low : e.tall ≡ false → (i : ℕ) → length d.values ≤ i → i < length e.values → (x : D) → a.height (data_in x e.values i) ≡ 0
