-- Where slots run out, told by what is at hand.
--     HaveManyNames m n       the maps of two ids have too many names to be numbered
--     HasManyNames e          so have the two sides of an equation
--     IsLargeClass nodes i    so have two ids of a class
--     FindsEither g a b i     the class i finds what one of the ids a and b finds
--     HasLargeClassOf g a b   such a class is large
--     IsLargeNode nodes i     the canonical node of a class has too many places to be numbered
--     HasLargePart nodes i    so has a node of its canonical term
--     HasLargeClassIn g       a class of the graph has so many slots, or its node so many places, that two ids of it have too many names
--     HasLargeClassOrNode g f, HasLargeClassOrTerm g t     or so would a class of the node, or of a node of the term
--     CanRunOutForNode, CanRunOutForTerm     why slots can run out where these are added
use Rattle.std.specs.Prelude.{◌≡◌, ℕ, zero, suc, ◌^◌, ◌<◌, ◌≤◌, ◌⊎◌, List, [], ◌∷◌, All, None, length, slice_index_or}
use Rattle.slotted_slots.specs.Table.{slot_limit, Table}
use Rattle.slotted_theory.specs.Nameless.{DArgs, DTerm, nameless, stop, place, sub, scope}
use Rattle.slotted_theory.specs.Term.{Term, term_size}
use Rattle.slotted_nodes.specs.Form.{Form}
use Rattle.slotted_languages.specs.NodeTerm.{nameless_node}
use Rattle.slotted_model.specs.Applied.{Applied}
use Rattle.slotted_model.specs.Classes.{IsFull, canonical_node, canonical_slots}
use Rattle.slotted_model.specs.Ids.{id_of, id_of_node}
pub use Rattle.slotted_proofs.specs.Equations.{HaveManyNames, HasManyNames}
pub use Rattle.slotted_rebuilding.specs.Named.{SidesRunOut, IsWideClass}
pub use Rattle.slotted_languages.specs.Sizes.{IsWideNode}
use Rattle.slotted_operations.specs.Canonical.{place_count}
use Rattle.slotted_operations.specs.Graph.{RunsOutForNode, RunsOutForTerm}
use Rattle.slotted_operations.specs.Image.{Image}
use Rattle.slotted_operations.specs.Nodes.{child_ids}
use Rattle.slotted_operations.specs.Places.{term_places}

-- the class has so many slots that two ids of it have too many names
abbrev pub IsLargeClass : List DTerm → ℕ → Type 0
IsLargeClass nodes i = 2 ^ 29 ≤ length (canonical_slots nodes i)

-- the live class that a class finds
abbrev pub class_found : Image → ℕ → ℕ
class_found g i = (slice_index_or g.found i (0, [])).0

-- the class i finds the class that one of the two ids finds
abbrev pub FindsEither : Image → Applied → Applied → ℕ → Type 0
FindsEither g a b i = (class_found g i ≡ class_found g a.0) ⊎ (class_found g i ≡ class_found g b.0)

-- of the classes that find what one of the two ids finds one is large
abbrev pub HasLargeClassOf : Image → Applied → Applied → Type 0
HasLargeClassOf g a b = (i : ℕ) × (i < length g.canonical) × FindsEither g a b i × IsLargeClass g.canonical i

-- the canonical node of the class has too many places to be numbered
abbrev pub IsLargeNode : List DTerm → ℕ → Type 0
IsLargeNode nodes i = (i < length nodes) × (slot_limit ≤ place_count (canonical_node nodes i))

-- the class of a child, as its payload has it
abbrev pub class_of : List (List ℕ) → ℕ
class_of [] = 0
class_of ([] ∷ more) = 0
class_of ((i ∷ keys) ∷ more) = i

-- a child of the node is an id of the class
abbrev pub HasChildOf : DArgs → ℕ → Type 0
HasChildOf stop c = ⊥
HasChildOf (place x rest) c = HasChildOf rest c
HasChildOf (sub op payloads args rest) c = (class_of payloads ≡ c) ⊎ HasChildOf rest c
HasChildOf (scope inner rest) c = HasChildOf inner c ⊎ HasChildOf rest c

-- n steps from a class to that of a child of its canonical node lead from i to j
abbrev pub Reaches : List DTerm → ℕ → ℕ → ℕ → Type 0
Reaches nodes zero i j = i ≡ j
Reaches nodes (suc n) i j = (c : ℕ) × HasChildOf (canonical_node nodes i).args c × Reaches nodes n c j

-- a node of the canonical term of the class has too many places to be numbered
abbrev pub HasLargePart : List DTerm → ℕ → Type 0
HasLargePart nodes i = (n : ℕ) × (j : ℕ) × Reaches nodes n i j × IsLargeNode nodes j

-- a class of the graph has so many slots, or its node so many places and children, that two ids of it may have too many names to be numbered
abbrev pub HasLargeClassIn : Image → Type 0
HasLargeClassIn g = (i : ℕ) × (i < length g.canonical) × (IsLargeClass g.canonical i ⊎ IsWideClass g.canonical i)

-- or the node would have such a class
abbrev pub HasLargeClassOrNode : Image → Form → Type 0
HasLargeClassOrNode g f = HasLargeClassIn g ⊎ IsWideNode f

-- or the term is so large that a node of it may have such a class
abbrev pub HasLargeClassOrTerm : Image → Term → Type 0
HasLargeClassOrTerm g t = HasLargeClassIn g ⊎ (2 ^ 29 ≤ term_size t)

-- by canonical nodes there is no class of the node, or no id of the term, or there are too many places to be numbered

abbrev pub IsUnknownNode : List DTerm → Form → Type 0
IsUnknownNode nodes f = (id_of_node nodes (nameless_node f) ≡ None) ⊎ (slot_limit ≤ length f.names)

-- where its children lack no names, it is unknown
abbrev pub IsUnknownIfFull : List DTerm → Form → Type 0
IsUnknownIfFull nodes f = All (IsFull nodes) (child_ids f) → IsUnknownNode nodes f

abbrev pub IsUnknownTerm : Image → Term → Type 0
IsUnknownTerm g t = (id_of g.canonical (nameless t) ≡ None) ⊎ (slot_limit ≤ term_places t)

-- no slots are left for a class of the node, or a class is too large to be rebuilt
abbrev pub CanRunOutForNode : Image → Form → Table → Table → Type 0
CanRunOutForNode g f old new = RunsOutForNode f old new ⊎ HasLargeClassOrNode g f

-- no slots are left for classes of the term, or a class is too large to be rebuilt
abbrev pub CanRunOutForTerm : Image → Term → Table → Table → Type 0
CanRunOutForTerm g t old new = RunsOutForTerm t old new ⊎ HasLargeClassOrTerm g t
