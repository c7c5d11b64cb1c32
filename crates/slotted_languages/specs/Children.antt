-- The children of a node in turn, and names that are free and bound.
use Rattle.std.specs.Prelude.{◌≡◌, ℕ, zero, suc, ◌<◌, List, [], ◌∷◌, ◌++◌, length, Bool, Result, Ok, Err, IsSome, is_some, slice_index}
use Rattle.std.specs.List.{FoldsTo, filter}
use Rattle.slotted_slots.specs.declared.error.Error.{Error}
use Rattle.slotted_slots.specs.declared.types.AppliedId.{AppliedId}
use Rattle.slotted_slots.specs.Maps.{keys, values}
use Rattle.slotted_nodes.specs.Form.{Form, children, child_of, with_child, scopes, scope_end_of}
use Rattle.slotted_nodes.specs.Public.{IsPublic}

-- an applied id as its id, its keys and its names
abbrev pub child_value : AppliedId → ℕ × List ℕ × List ℕ
child_value a = (a.id.0, keys a.m, values a.m)

-- the first n children
abbrev pub first_children : Form → ℕ → List (ℕ × List ℕ × List ℕ)
first_children f zero = []
first_children f (suc k) = first_children f k ++ child_of f k ∷ []

abbrev pub all_children : Form → List (ℕ × List ℕ × List ℕ)
all_children f = first_children f (length (children f.tree))

-- the place is a binder
abbrev pub IsBinder : Form → ℕ → Type 0
IsBinder f j = IsSome (scope_end_of (scopes f.tree) j)

abbrev pub HasNoBinder : Form → Type 0
HasNoBinder f = (j : ℕ) → j < length f.names → ¬ IsBinder f j

-- some binder has the name
pub record IsBound (f : Form) (x : ℕ) : Type 0 where
  pub place : ℕ
  pub within : place < length f.names
  pub binder : IsBinder f place
  pub named : slice_index f.names place ≡ x

-- no name at a public place is that of a binder
abbrev pub NoneFreeAndBound : Form → Type 0
NoneFreeAndBound f = (i : ℕ) → i < length f.names → IsPublic f i → IsBound f (slice_index f.names i) → ⊥

-- the numbers below n
abbrev pub below : ℕ → List ℕ
below zero = []
below (suc k) = below k ++ k ∷ []

-- the child k of a node was replaced by what a call answered for it; the calls change the function as `step` says
pub record Replaced {F : Type 0} (step : F → AppliedId → Result AppliedId Error → F → Type 0) (p : F × Form) (k : ℕ) (q : F × Form) : Type 0 where
  pub child : AppliedId
  pub answer : AppliedId
  pub is_child : child_value child ≡ child_of p.1 k
  pub called : step p.0 child (Ok answer) q.0
  pub put : q.1 ≡ with_child p.1 k answer.id.0 (keys answer.m) (values answer.m)

-- some call refused with this error
pub record Refused {F : Type 0} (step : F → AppliedId → Result AppliedId Error → F → Type 0) (e : Error) : Type 0 where
  pub before : F
  pub child : AppliedId
  pub after : F
  pub called : step before child (Err e) after

-- each child from the left was replaced
abbrev pub ReplacesAll : {F : Type 0} (step : F → AppliedId → Result AppliedId Error → F → Type 0) → F → Form → Form → Type 0
ReplacesAll {F} step f old new = (last : F) × FoldsTo (Replaced step) (f, old) (below (length (children old.tree))) (last, new)

-- the place is a binder, as a test
abbrev pub is_binder : Form → ℕ → Bool
is_binder f j = is_some (scope_end_of (scopes f.tree) j)

-- how many binders there are
abbrev pub binders : Form → ℕ
binders f = length (filter (is_binder f) (below (length f.names)))
