-- Closed graphs: what completeness needs of a graph, and no more. A graph at rest is closed.
--     AreAlikeUpTo found marked a b              a and b find alike, or both find marked classes
--     IsClosed nodes found E look marked         each canonical node is looked up as what its id finds, and the listed equations are found
use Rattle.std.specs.Prelude.{◌≡◌, ◌⊎◌, ℕ, ◌<◌, List, length, Contains, Option, Some, Bool, IsTrue, IsFalse}
use Rattle.slotted_theory.specs.Nameless.{DTerm}
use Rattle.slotted_model.specs.Applied.{Applied}
use Rattle.slotted_model.specs.Classes.{canonical_node, term_of, IsFull}
use Rattle.slotted_model.specs.LookUp.{Renames}
use Rattle.slotted_model.specs.Find.{Entry, find_class, find}
use Rattle.slotted_model.specs.Normal.{normal}
use Rattle.slotted_model.specs.ProofList.{node_of}
use Rattle.slotted_model.specs.State.{child_classes}

-- the two find alike, or both find marked classes
abbrev pub AreAlikeUpTo : List Entry → (ℕ → Bool) → Applied → Applied → Type 0
AreAlikeUpTo found marked a b = (find found a ≡ find found b) ⊎
    (IsTrue (marked (find_class found a.0)) × IsTrue (marked (find_class found b.0)))

-- the canonical node of a full id is looked up, as an id of the class that the full id finds, and as just what it finds where that class is not marked
pub record IsAnswered (nodes : List DTerm) (found : List Entry) (look : DTerm → Option Applied) (marked : ℕ → Bool) (a : Applied) : Type 0 where
  pub answer : Applied
  pub looked_up : look (normal found (node_of nodes a)) ≡ Some answer
  pub class : answer.0 ≡ find_class found a.0
  pub same : IsFalse (marked (find_class found a.0)) → answer ≡ find found a

-- the two sides of a listed pair are the terms of full ids that find alike, or both find marked classes
pub record IsFoundPair (nodes : List DTerm) (found : List Entry) (marked : ℕ → Bool) (d e : DTerm) : Type 0 where
  pub left : Applied
  pub right : Applied
  pub left_full : IsFull nodes left
  pub right_full : IsFull nodes right
  pub left_term : term_of nodes left ≡ d
  pub right_term : term_of nodes right ≡ e
  pub alike : AreAlikeUpTo found marked left right

-- what completeness needs of a graph with this look-up of nodes over found ids, for the equations E
pub record IsClosed (nodes : List DTerm) (found : List Entry) (E : List (DTerm × DTerm)) (look : DTerm → Option Applied) (marked : ℕ → Bool) : Type 0 where
  pub renames : Renames look
  pub answers : (a : Applied) → IsFull nodes a → IsAnswered nodes found look marked a
  -- a class is marked if its canonical node stands over a marked class
  pub marks_rise : (i c : ℕ) → i < length nodes → Contains (child_classes (normal found (canonical_node nodes i)).args) c →
      IsTrue (marked c) → IsTrue (marked (find_class found i))
  pub pairs : (d e : DTerm) → Contains E (d, e) → IsFoundPair nodes found marked d e
