-- Applied ids that may lack names, and what an answer to `eq` says of them. A union drops the slots of a class of which its equation
-- says that their names do not matter; an id without names for these stands for all ids that have one more name for each of them.
--     slots_left g c         the slots that the class has left
--     IsValidId g a          a class of the graph with different known names for these, and perhaps for more of its canonical slots
--     IsValidNode g f        a node over such ids, with known slots
--     Fills g a b            b is a with a name for each canonical slot that a has none for
--     SaysFillingsEqual      what an answer to `eq` says of the terms, whatever names are filled in
--     LackNothing g a b      where nothing is asserted a and b have all names
--     HaveValidSides g       `eq` can be asked of each listed symmetry
use Rattle.std.specs.Prelude.{◌≡◌, ℕ, ◌<◌, List, [], length, All, Contains, Bool, IsTrue, slice_index_or}
use Rattle.slotted_theory.specs.Derives.{Equal}
use Rattle.slotted_theory.specs.FiniteMaps.{IsInjectiveMap}
use Rattle.slotted_nodes.specs.Form.{Form, IsSmall}
use Rattle.slotted_slots.specs.Table.{AllKnown}
use Rattle.slotted_model.specs.Applied.{Applied, keys, values}
use Rattle.slotted_model.specs.Ascending.{IsAscending}
use Rattle.slotted_model.specs.Classes.{canonical_slots, term_of, IsFull}
use Rattle.slotted_operations.specs.Graph.{Graph}
use Rattle.slotted_operations.specs.Nodes.{child_ids}
use Rattle.slotted_operations.specs.Image.{Image, SymmetryEntry, AreDerivable, asserted_in}

-- the canonical slots of a class that no union dropped: those that its find has
abbrev pub slots_left : Image → ℕ → List ℕ
slots_left g c = values (slice_index_or g.found c (0, [])).1

-- a class of the graph, with different known names for canonical slots of the class, among them each that it has left
pub record IsValidId (g : Graph) (a : Applied) : Type 0 where
  pub in_range : a.0 < length g.image.canonical
  pub ascending : IsAscending (keys a.1)
  pub injective : IsInjectiveMap a.1
  pub known : AllKnown g.table (values a.1)
  pub within : (s : ℕ) → Contains (keys a.1) s → Contains (canonical_slots g.image.canonical a.0) s
  pub has_left : (s : ℕ) → Contains (canonical_slots g.image.canonical a.0) s → Contains (slots_left g.image a.0) s → Contains (keys a.1) s

-- a node of fewer than 2^30 places, with known slots, of whose children `eq` can be asked
pub record IsValidNode (g : Graph) (f : Form) : Type 0 where
  pub few : IsSmall f
  pub known : AllKnown g.table f.names
  pub children : All (IsValidId g) (child_ids f)

-- b is the same class with the same names, and with others for the canonical slots that a has no name for
pub record Fills (g : Image) (a b : Applied) : Type 0 where
  pub class : b.0 ≡ a.0
  pub full : IsFull g.canonical b
  pub keeps : (s x : ℕ) → Contains a.1 (s, x) → Contains b.1 (s, x)

-- a yes says of any two ids that fill a and b that by the asserted list their terms are equal, and derivable
abbrev pub SaysFillingsEqual : Image → Applied → Applied → Bool → Type 0
SaysFillingsEqual g a b y =
    IsTrue y → (left right : Applied) → Fills g a left → Fills g b right →
    Equal (asserted_in g) (term_of g.canonical left) (term_of g.canonical right) × AreDerivable g left right

-- where nothing is asserted, both ids have names for all slots
abbrev pub LackNothing : Image → Applied → Applied → Type 0
LackNothing g a b = asserted_in g ≡ [] → IsFull g.canonical a × IsFull g.canonical b

-- both sides of each listed symmetry are valid
abbrev pub HaveValidSides : Graph → Type 0
HaveValidSides g = (y : SymmetryEntry) → Contains g.image.symmetries y → IsValidId g y.0.0 × IsValidId g y.0.1
