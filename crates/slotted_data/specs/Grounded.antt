-- Where data comes from: it is there at first, or is what nodes make of such data, and merges of it.
--     IsGrounded a nodes find starts c x   x comes so for the class c
--     Grounds a nodes find starts values   the data of each class does
--     IsOldOr given values                 what is there at first: these data of classes, and what is given for classes
--     StaysFound nodes later find found    the older nodes stay, and of their classes those that found the same still do
use Rattle.std.specs.Prelude.{◌≡◌, ◌⊎◌, ◌<◌, ℕ, List, length, map, Some, Contains, slice_get}
use Rattle.slotted_theory.specs.Nameless.{DTerm}
use Rattle.slotted_model.specs.Classes.{canonical_node}
use Rattle.slotted_model.specs.State.{child_classes}
use Rattle.slotted_model_analyses.specs.Analysis.{Analysis}

-- it is there at first; or the class's node makes it of data that comes so for its children; or it is a merge of two that do; or it comes so for a
-- class that finds the same
pub data IsGrounded {D : Type 0} (a : Analysis D) (nodes : List DTerm) (find : ℕ → ℕ) (starts : ℕ → D → Type 0) : ℕ → D → Type 0 where
  at_first : (c : ℕ) (x : D) → starts c x → IsGrounded a nodes find starts c x
  by_node : (c : ℕ) (data_of : ℕ → D) → c < length nodes →
      ((b : ℕ) → Contains (child_classes (canonical_node nodes c).args) b → IsGrounded a nodes find starts b (data_of b)) →
      IsGrounded a nodes find starts c (a.make (canonical_node nodes c) (map data_of (child_classes (canonical_node nodes c).args)))
  by_merge : (c : ℕ) (x y : D) → IsGrounded a nodes find starts c x → IsGrounded a nodes find starts c y → IsGrounded a nodes find starts c (a.merge x y)
  by_find : (b c : ℕ) (x : D) → b < length nodes → c < length nodes → find b ≡ find c → IsGrounded a nodes find starts b x →
      IsGrounded a nodes find starts c x

abbrev pub Grounds : {D : Type 0} → Analysis D → List DTerm → (ℕ → ℕ) → (ℕ → D → Type 0) → List D → Type 0
Grounds {D} a nodes find starts values = (i : ℕ) (x : D) → slice_get values i ≡ Some x → IsGrounded a nodes find starts i x

abbrev pub IsOldOr : {D : Type 0} → List (ℕ × D) → List D → ℕ → D → Type 0
IsOldOr given values i x = (slice_get values i ≡ Some x) ⊎ Contains given (i, x)

pub record StaysFound (nodes later : List DTerm) (find found : ℕ → ℕ) : Type 0 where
  pub stays : (i : ℕ) → i < length nodes → (i < length later) × (canonical_node later i ≡ canonical_node nodes i)
  pub together : (b c : ℕ) → b < length nodes → c < length nodes → find b ≡ find c → found b ≡ found c
