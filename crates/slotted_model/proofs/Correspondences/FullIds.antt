-- Full applied ids are full maps over the canonical slots of their class.
use Rattle.std.proofs.Common.{ℕ, ◌<◌, List, [], ◌∷◌, length, arith, inl, inr}
use Rattle.std.specs.Prelude.{Contains}
use Rattle.slotted_lists.proofs.Contained.{contains_cases, Contains-nil}
use Rattle.slotted_theory.specs.Nameless.{DTerm}
use Rattle.slotted_theory.specs.Shape.{free_names}
use Rattle.slotted_model.specs.Ascending.{IsBelowAll, IsAscending}
use Rattle.slotted_model.specs.Applied.{Applied}
use Rattle.slotted_model.specs.Classes.{canonical_node, canonical_slots, IsFull}
use Rattle.slotted_model.specs.Correspondence.{AllDifferent, IsFullMap}
use Rattle.slotted_model.proofs.Data.Sets.{IsAscending-ascending}

below_contained : (x : ℕ) (ys : List ℕ) (y : ℕ) → IsBelowAll x ys → Contains ys y → x < y
below_contained x [] y b c = absurd (Contains-nil y c)
below_contained x (z ∷ ys) y b c = elim (contains_cases z ys y c) [
  | inl e ↦ let l : x < z = b.0 in omega arith
  | inr h ↦ below_contained x ys y b.1 h
]

-- in an ascending list no name stands twice
pub ascending-different : (P : List ℕ) → IsAscending P → AllDifferent P
ascending-different [] a = tt
ascending-different (s ∷ P) a = (λ c. let l : s < s = below_contained s P s a.0 c in omega arith, ascending-different P a.1)

pub slots-different : (nodes : List DTerm) (i : ℕ) → AllDifferent (canonical_slots nodes i)
slots-different nodes i = ascending-different (canonical_slots nodes i) (IsAscending-ascending (free_names (canonical_node nodes i).args))

-- a full id is a class with a full map over its canonical slots
pub full_map : (nodes : List DTerm) (a : Applied) → IsFull nodes a → IsFullMap (canonical_slots nodes a.0) a.1
full_map nodes a f = record { slots = f.slots; once = slots-different nodes a.0; injective = f.injective }

pub full_id : (nodes : List DTerm) (i : ℕ) (m : List (ℕ × ℕ)) → i < length nodes → IsFullMap (canonical_slots nodes i) m → IsFull nodes (i, m)
full_id nodes i m h f = record { in_range = h; slots = f.slots; injective = f.injective }
