-- The canonical node of a class in normal form, by its shape.
--     finds_of k                what is kept, as far as finds see it
--     StandsIn k i m t          what the slot t of the class that i finds stands for is a value of m
--     IsFoundNode k i f m       f is the shape of the normal form of the class i, and m has the slot of i for each number of it
--     FilesNode k i f m         the shape f with the slots m of i for its numbers, and the node of i, have one normal form
--     HasNoMorePlaces k i f     the node f has no more places than that of i
use Rattle.std.specs.Prelude.{◌≡◌, ◌↔◌, ◌≤◌, ℕ, List, [], Contains, length}
use Rattle.slotted_theory.specs.Nameless.{moved}
use Rattle.slotted_theory.specs.FiniteMaps.{filled, IsInjectiveMap}
use Rattle.slotted_nodes.specs.Form.{Form}
use Rattle.slotted_languages.specs.NodeTerm.{nameless_node}
use Rattle.slotted_languages.specs.Shape.{shape}
use Rattle.slotted_model.specs.Applied.{keys, values}
use Rattle.slotted_model.specs.Ascending.{names}
use Rattle.slotted_model.specs.Find.{find_map}
use Rattle.slotted_model.specs.Normal.{normal}
use Rattle.slotted_model.specs.Rebuild.{row_for}
use Rattle.slotted_model.specs.State.{State, normal_node}
use Rattle.slotted_classes.specs.Kept.{Kept, node_at, nodes_of, entries_of}
use Rattle.slotted_hashcons.specs.FiledRows.{row_of_entry}

-- the canonical nodes and the find entries: all that normal forms depend on
abbrev pub finds_of : Kept → State
finds_of k = record { nodes = nodes_of k; found = entries_of k; proofs = []; rows = []; waiting = []; symmetries = [] }

-- the map has just the slots of the class that stand in the normal form of its node
abbrev pub HasNormalNames : Kept → ℕ → List (ℕ × ℕ) → Type 0
HasNormalNames k i m = (s : ℕ) → Contains (values m) s ↔ Contains (names (normal_node (finds_of k) i)) s

-- what the slot t of the class that the class i finds stands for is a value of the map
abbrev pub StandsIn : Kept → ℕ → List (ℕ × ℕ) → ℕ → Type 0
StandsIn k i m t = (s : ℕ) → Contains (find_map (entries_of k) i) (t, s) → Contains (values m) s

pub record IsFoundNode (k : Kept) (i : ℕ) (f : Form) (m : List (ℕ × ℕ)) : Type 0 where
  -- it is the row by which the class is filed
  pub row : row_of_entry (f, (i, m)) ≡ row_for (finds_of k) i
  -- it is a shape, and the map has a slot for each number
  pub itself : (shape f).0 ≡ f
  pub numbers : keys m ≡ keys (shape f).1
  -- with the slots put in it is the node
  pub back : moved (filled m) (nameless_node f) ≡ normal_node (finds_of k) i
  pub slots : HasNormalNames k i m
  pub different : IsInjectiveMap m

-- the map has the slots of the class for the numbers of the shape of its node in normal form
abbrev pub HasFoundNode : Kept → ℕ → List (ℕ × ℕ) → Type 0
HasFoundNode k i m = (f : Form) × IsFoundNode k i f m

-- the shape f with the slots m of the class i put in has the normal form of the node of i, also where it was filed before finds went on
pub record FilesNode (k : Kept) (i : ℕ) (f : Form) (m : List (ℕ × ℕ)) : Type 0 where
  pub itself : (shape f).0 ≡ f
  pub numbers : keys m ≡ keys (shape f).1
  pub different : IsInjectiveMap m
  pub normal_form : normal (entries_of k) (moved (filled m) (nameless_node f)) ≡ normal_node (finds_of k) i

-- the node f has no more places than the canonical node of the class i
abbrev pub HasNoMorePlaces : Kept → ℕ → Form → Type 0
HasNoMorePlaces k i f = length f.names ≤ length (node_at k i).names
