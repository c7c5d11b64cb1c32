-- Which ids `eq` may tell apart although their terms are equal. A listed symmetry says that a class equals itself with its names in another
-- order. While it is open, two ids that differ by this order alone do not find alike, and nor need ids of nodes over them.
--     IsAffected g c        an open symmetry affects the live class c: it is one of c, or a node of c has a child of an affected class
--     AreAffected g a b     a and b both find affected classes
--     IsYesIfEqual          an answer to `eq` is yes if names can be filled in so that the terms are equal, or both ids are affected
--     IsYesIfDerivable      so it is if they are derivable
--     AreRepresented g      the canonical term of each id whose class is not affected is looked up as what the id finds
use Rattle.std.specs.Prelude.{◌≡◌, ◌⊎◌, ℕ, ◌<◌, List, length, map, Contains, Bool, IsTrue, Some}
use Rattle.slotted_theory.specs.Term.{Term}
use Rattle.slotted_theory.specs.Nameless.{nameless}
use Rattle.slotted_theory.specs.Derives.{Derives, Equal, nameless_pair}
use Rattle.slotted_model.specs.Applied.{Applied}
use Rattle.slotted_model.specs.Classes.{canonical_node, term_of, IsFull}
use Rattle.slotted_operations.specs.Causes.{HasChildOf, class_found}
use Rattle.slotted_operations.specs.ValidIds.{Fills}
use Rattle.slotted_operations.specs.Graph.{Graph}
use Rattle.slotted_operations.specs.Image.{Image, SymmetryEntry, asserted_in, found_id, FoundAlike}
use Rattle.slotted_operations.specs.LookUp.{look_up_term}

-- the least set of live classes that has the class of each open symmetry, and that of each canonical node with a child of a class of the set
pub data IsAffected (g : Image) : ℕ → Type 0 where
  by_open_symmetry : (y : SymmetryEntry) → Contains g.symmetries y → ¬ FoundAlike g y.0.0 y.0.1 → IsAffected g (class_found g y.0.0.0)
  by_affected_child : (i c : ℕ) → i < length g.canonical → HasChildOf (canonical_node g.canonical i).args c →
      IsAffected g (class_found g c) → IsAffected g (class_found g i)

-- both ids find affected classes
abbrev pub AreAffected : Image → Applied → Applied → Type 0
AreAffected g a b = IsAffected g (class_found g a.0) × IsAffected g (class_found g b.0)

-- the answer is yes if by the asserted list the terms of some two ids that fill a and b are equal, or a and b are affected
abbrev pub IsYesIfEqual : Image → Applied → Applied → Bool → Type 0
IsYesIfEqual g a b y =
    (left right : Applied) → Fills g a left → Fills g b right →
    Equal (asserted_in g) (term_of g.canonical left) (term_of g.canonical right) → IsTrue y ⊎ AreAffected g a b

-- it is yes if named terms of which two such ids are the nameless form are derivable from named equations that are the asserted list, or a
-- and b are affected
abbrev pub IsYesIfDerivable : Image → Applied → Applied → Bool → Type 0
IsYesIfDerivable g a b y =
    (left right : Applied) → Fills g a left → Fills g b right →
    (E : List (Term × Term)) (t u : Term) → map nameless_pair E ≡ asserted_in g →
    nameless t ≡ term_of g.canonical left → nameless u ≡ term_of g.canonical right → Derives E t u → IsTrue y ⊎ AreAffected g a b

-- each id with names for all slots of its class represents its canonical term, unless its class is affected
abbrev pub AreRepresented : Graph → Type 0
AreRepresented g =
    (a : Applied) → IsFull g.image.canonical a → ¬ IsAffected g.image (class_found g.image a.0) →
    (t : Term) → nameless t ≡ term_of g.image.canonical a → look_up_term g t ≡ Some (found_id g.image a)
