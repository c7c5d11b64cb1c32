-- New names for the numbers of a node's shape, chosen one after another.
use Rattle.std.specs.Prelude.{◌≡◌, ◌⊎◌, ℕ, ◌<◌, List, ◌++◌, length, Some, None, IsSome, true, false, slice_index}
use Rattle.slotted_theory.specs.FiniteMaps.{with_values}
use Rattle.slotted_theory.specs.Nameless.{moved}
use Rattle.slotted_slots.specs.Maps.{value_of, with_pair, values, is_among}
use Rattle.slotted_slots.specs.Table.{Table, TakesAtMost, is_known}
use Rattle.slotted_languages.specs.Children.{IsBinder, binders}
use Rattle.slotted_nodes.specs.Form.{Form}
use Rattle.slotted_languages.specs.Fresh.{IsInUse, RunsOut}
use Rattle.slotted_languages.specs.NodeTerm.{nameless_node, free_names_of}
use Rattle.slotted_languages.specs.Shape.{shape, with_names}

-- y is a new name for a number: for a free name what the map of these says; for a binder its old name, or where that is to
-- be avoided one that the table t does not know and u knows, and that is neither to be avoided nor a name xs of the node nor
-- among the new names so far
pub record IsChoice (t u : Table) (xs avoid : List ℕ) (free names : List (ℕ × ℕ)) (number name y : ℕ) : Type 0 where
  pub free_name : (z : ℕ) → value_of free number ≡ Some z → y ≡ z
  pub kept : value_of free number ≡ None → is_among name avoid ≡ false → y ≡ name
  pub not_avoided : value_of free number ≡ None → is_among name avoid ≡ true → is_among y avoid ≡ false
  pub not_old : value_of free number ≡ None → is_among name avoid ≡ true → is_among y xs ≡ false
  pub not_new : value_of free number ≡ None → is_among name avoid ≡ true → is_among y (values names) ≡ false
  pub unused : value_of free number ≡ None → is_among name avoid ≡ true → is_known t y ≡ false
  pub known : value_of free number ≡ None → is_among name avoid ≡ true → is_known u y ≡ true

-- the number has a name by now, or is that of a free one
abbrev pub HasName : List (ℕ × ℕ) → List (ℕ × ℕ) → ℕ → Type 0
HasName names free number = IsSome (value_of names number) ⊎ IsSome (value_of free number)

-- y is the name that the number has, or a choice that is entered
pub record IsEntered (t u : Table) (xs avoid : List ℕ) (free old new : List (ℕ × ℕ)) (number name y : ℕ) : Type 0 where
  pub known : (z : ℕ) → value_of old number ≡ Some z → (y ≡ z) × (new ≡ old)
  pub chosen : value_of old number ≡ None → IsChoice t u xs avoid free old number name y
  pub entered : value_of old number ≡ None → new ≡ with_pair old number y

-- g is the node f with its free names renamed by π, and no name of a binder is one to be avoided. A binder whose name was to be
-- avoided has one that the table t does not know, every other one has its old name, two such binders have different names, and
-- no binder has the new name of what had another name before. A name that did not stand at its place is one that the table u
-- knows, or what π makes of a free name there. All but the names is as it was
pub record IsRenamed (t u : Table) (π : ℕ → ℕ) (f : Form) (avoid : List ℕ) (g : Form) : Type 0 where
  pub renamed : nameless_node g ≡ moved π (nameless_node f)
  pub bound : (j : ℕ) → j < length f.names → IsBinder f j → is_among (slice_index g.names j) avoid ≡ false
  pub unused : (j : ℕ) → j < length f.names → IsBinder f j → is_among (slice_index f.names j) avoid ≡ true →
      is_known t (slice_index g.names j) ≡ false
  pub kept : (j : ℕ) → j < length f.names → IsBinder f j → is_among (slice_index f.names j) avoid ≡ false →
      slice_index g.names j ≡ slice_index f.names j
  pub apart : (j k : ℕ) → j < length f.names → k < length f.names → IsBinder f j → IsBinder f k →
      is_among (slice_index f.names j) avoid ≡ true → is_among (slice_index f.names k) avoid ≡ true →
      slice_index g.names j ≡ slice_index g.names k → j ≡ k
  pub differ : (j k : ℕ) → j < length f.names → k < length f.names → IsBinder f j →
      slice_index g.names j ≡ slice_index g.names k → slice_index f.names j ≡ slice_index f.names k
  pub put : (j : ℕ) → j < length f.names → (slice_index g.names j ≡ slice_index f.names j) ⊎
      ((is_known u (slice_index g.names j) ≡ true) ⊎ ((is_among (slice_index f.names j) (free_names_of f) ≡ true) × (slice_index g.names j ≡ π (slice_index f.names j))))
  pub places : g ≡ with_names f g.names

-- g is f renamed as any π by which the map `free` names the free numbers of its shape
abbrev pub RenamesAs : Table → Table → List (ℕ × ℕ) → List ℕ → Form → Form → Type 0
RenamesAs t u free avoid f g = (π : ℕ → ℕ) → free ≡ with_values π (shape f).1 → IsRenamed t u π f avoid g

-- z is a name of f or of g, or was to be avoided
abbrev pub IsAvoidedOr : List ℕ → Form → Form → ℕ → Type 0
IsAvoidedOr avoid f g z = IsInUse avoid g.names f.names z

-- at most one slot for each binder was made, beside the names to be avoided and those of f; or slots ran out, and fewer were left
abbrev pub TakesForBinders : List ℕ → Form → Table → Table → Type 0
TakesForBinders avoid f t u = TakesAtMost (binders f) (avoid ++ f.names) t u

abbrev pub LacksForBinders : List ℕ → Form → Table → Table → Type 0
LacksForBinders avoid f t u = RunsOut (binders f) (avoid ++ f.names) t u
