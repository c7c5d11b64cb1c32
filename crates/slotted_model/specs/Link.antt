-- The events that change finds and proofs: a new class, a new entry of the proof list, a class that dies and leads to another, and a class that drops slots.
use Rattle.std.specs.Prelude.{◌≡◌, ◌≢◌, ℕ, ◌<◌, List, [], ◌∷◌, ◌++◌, length, set, Contains}
use Rattle.std.specs.Map.{keys_of, values_of}
use Rattle.slotted_theory.specs.Nameless.{DTerm}
use Rattle.slotted_model.specs.Applied.{Applied}
use Rattle.slotted_model.specs.Classes.{canonical_slots}
use Rattle.slotted_model.specs.Filling.{IsValid}
use Rattle.slotted_theory.specs.FiniteMaps.{value_of}
use Rattle.slotted_model.specs.Correspondence.{pairs_on, composite, turned, identity}
use Rattle.slotted_model.specs.Find.{Entry, entry_at, IsLive, find_class, find_map, used_slots, find}
use Rattle.slotted_model.specs.ProofList.{Equation, ProofEntry, IsOver, IsStepFor, equation_at}

-- the entry can be appended to the proof list: it is new, and its step proves it
pub record CanEnter (nodes : List DTerm) (proofs : List ProofEntry) (entry : ProofEntry) : Type 0 where
  pub over : IsOver nodes entry.equation
  pub proved : IsStepFor nodes proofs (length proofs) entry.equation entry.step
  pub is_new : (p : ℕ) → p < length proofs → equation_at proofs p ≢ entry.equation

-- what an equation says of the classes that its sides find: first back along the find of the left side, then the equation, then the find of the right side
abbrev pub found_equation : List DTerm → List Entry → Equation → Equation
found_equation nodes found e = record {
  left = find_class found e.left;
  right = find_class found e.right;
  pairs = composite (composite (find_map found e.left) e.pairs) (turned (canonical_slots nodes e.right) (find_map found e.right));
}

-- the first half of it: back along the find of the left side, and then the equation
abbrev pub half_found_equation : List DTerm → List Entry → Equation → Equation
half_found_equation nodes found e = record { left = find_class found e.left; right = e.right; pairs = composite (find_map found e.left) e.pairs }

-- the equation is between different live classes, and pairs slots of the left one with all slots of the right one: so does each bijection of their slots
pub record CanLink (nodes : List DTerm) (found : List Entry) (e : Equation) : Type 0 where
  pub over : IsOver nodes e
  pub left_lives : IsLive found e.left
  pub right_lives : IsLive found e.right
  pub different : e.left ≢ e.right
  pub from : (s : ℕ) → Contains (keys_of e.pairs) s → Contains (used_slots found e.left) s
  pub onto : (t : ℕ) → Contains (used_slots found e.right) t → Contains (values_of e.pairs) t

-- the moment is later than each death
abbrev pub IsLater : List Entry → ℕ → Type 0
IsLater found moment = (i : ℕ) → i < length found → ¬ IsLive found i → (entry_at found i).died < moment

-- the left class of an equation dies at this moment and leads to the right one, by the proof of this number
abbrev pub with_link : List DTerm → List Entry → Equation → ℕ → ℕ → List Entry
with_link nodes found e proof moment = set found e.left (record {
  class = e.right;
  pairs = turned (canonical_slots nodes e.right) e.pairs;
  proof = proof;
  died = moment;
})

-- the newer find goes on from what the older one found
abbrev pub Refines : List DTerm → List Entry → List Entry → Type 0
Refines nodes older newer = (a : Applied) → IsValid (used_slots older) nodes a → IsValid (used_slots newer) nodes a ×
    (find newer a ≡ find newer (find older a))

-- these slots are slots of a live class, in their order
pub record CanDrop (nodes : List DTerm) (found : List Entry) (c : ℕ) (slots : List ℕ) : Type 0 where
  pub in_range : c < length nodes
  pub lives : IsLive found c
  pub in_order : pairs_on (canonical_slots nodes c) (value_of (identity slots)) ≡ identity slots
  pub fewer : (s : ℕ) → Contains slots s → Contains (used_slots found c) s

-- a live class keeps these slots alone, by the proof of this number
abbrev pub with_slots : List Entry → ℕ → List ℕ → ℕ → List Entry
with_slots found c slots proof = set found c (record { class = c; pairs = identity slots; proof = proof; died = 0 })

-- what an equation says of its left class alone: it equals itself with other names at the slots that have no partner
abbrev pub kept_equation : Equation → Equation
kept_equation e = record { left = e.left; right = e.left; pairs = identity (keys_of e.pairs) }

-- the equation of a class with itself
abbrev pub reflexive_equation : List DTerm → ℕ → Equation
reflexive_equation nodes i = record { left = i; right = i; pairs = identity (canonical_slots nodes i) }

-- a new last class of these nodes leads to itself, with all its canonical slots, by the proof of this number
abbrev pub with_new_entry : List DTerm → List Entry → ℕ → List Entry
with_new_entry nodes found proof = found ++ record { class = length found; pairs = identity (canonical_slots nodes (length found)); proof = proof; died = 0 } ∷ []

-- the entry of a dead class leads at once to what is found, by the proof of this number, and keeps its moment
abbrev pub with_shortcut : List Entry → ℕ → ℕ → List Entry
with_shortcut found i proof = set found i (record { class = find_class found i; pairs = find_map found i; proof = proof; died = (entry_at found i).died })
