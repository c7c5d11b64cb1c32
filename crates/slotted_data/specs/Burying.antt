-- The data and the users of classes that died go to the classes that they find.
--     MovesUsers c h d e     the users of c are users of h
--     WaitsOr s t o P        o waits if a node is filed of it, or P holds
--     BuriesOne a k c ..     the class c, which died, has gone to what it finds
--     Buries a k cs ..       so have all these classes
use Rattle.std.specs.Prelude.{◌≡◌, ◌≢◌, ◌⊎◌, ◌<◌, ℕ, List, [], length, Some, Contains, slice_get}
use Rattle.slotted_model.specs.Correspondence.{AllDifferent}
use Rattle.slotted_model.specs.Find.{IsLive}
use Rattle.slotted_model_analyses.specs.Analysis.{Analysis, Absorbs}
use Rattle.slotted_classes.specs.Kept.{Kept, entries_of, nodes_of}
use Rattle.slotted_hashcons.specs.FiledRows.{IsFiled, Rows}
use Rattle.slotted_data.specs.Grounded.{Grounds, IsOldOr}
use Rattle.slotted_data.specs.Held.{Held, users_of}
use Rattle.slotted_data.specs.Made.{data_in}
use Rattle.slotted_data.specs.Users.{SameValues, WaitEach, WaitsFiled, found_in}
use Rattle.slotted_data.specs.Lowering.{Puts}

-- the users of c are users of h from now on
pub record MovesUsers {D : Type 0} (c h : ℕ) (d e : Held D) : Type 0 where
  pub same : SameValues d e
  pub entered : e.entered ≡ d.entered
  pub moved : (o : ℕ) → Contains (users_of d c) o → Contains (users_of e h) o
  pub kept : (b o : ℕ) → b ≢ c → Contains (users_of d b) o → Contains (users_of e b) o
  pub only : (b o : ℕ) → Contains (users_of e b) o → Contains (users_of d b) o ⊎ ((b ≡ h) × Contains (users_of d c) o)

abbrev pub WaitsOr : Rows → Rows → ℕ → Type 0 → Type 0
WaitsOr s t o P = (IsFiled s.filed o → Contains t.waiting o) ⊎ P

-- two classes have the same data
abbrev pub HasTheSame : {D : Type 0} → Held D → ℕ → Held D → ℕ → Type 0
HasTheSame {D} e b d c = (x : D) → data_in x e.values b ≡ data_in x d.values c

-- what c had is merged into what the class has that it finds; the users of c are users of that, and wait unless it has what c had
pub record BuriesOne {D : Type 0} (a : Analysis D) (k : Kept) (c : ℕ) (s t : Rows) (d e : Held D) : Type 0 where
  pub kept : D
  pub dead : D
  pub kept_is : slice_get d.values (found_in k c) ≡ Some kept
  pub dead_is : slice_get d.values c ≡ Some dead
  pub rows : Rows
  pub held : Held D
  pub puts : Puts (found_in k c) (a.merge kept dead) s rows d held
  pub waits : ((a.merge kept dead ≡ dead) × (t ≡ rows)) ⊎ WaitEach rows t (users_of held c)
  pub moves : MovesUsers c (found_in k c) held e

-- a user of the class c: it stays one, or is one of what c finds; and it waits, or this has what c had
abbrev pub FollowsUser : {D : Type 0} → Kept → List ℕ → Rows → Rows → Held D → Held D → ℕ → ℕ → Type 0
FollowsUser k cs s t d e c o =
    ((¬ Contains cs c) × Contains (users_of e c) o × WaitsOr s t o (HasTheSame e c d c))
    ⊎ (Contains (users_of e (found_in k c)) o × WaitsOr s t o (HasTheSame e (found_in k c) d c))

-- each of these classes has gone to what it finds
pub record Buries {D : Type 0} (a : Analysis D) (k : Kept) (cs : List ℕ) (s t : Rows) (d e : Held D) : Type 0 where
  pub count : length e.values ≡ length d.values
  pub entered : e.entered ≡ d.entered
  pub carried : e.carried ≡ d.carried
  pub tall : e.tall ≡ d.tall
  pub counts : e.counts ≡ d.counts
  pub rows : WaitsFiled s t
  pub down : (i : ℕ) (x : D) → Absorbs a (data_in x e.values i) (data_in x d.values i)
  pub grounded : Grounds a (nodes_of k) (found_in k) (IsOldOr [] d.values) e.values
  pub merged : (i : ℕ) (x : D) → Contains cs i → Absorbs a (data_in x e.values (found_in k i)) (data_in x d.values i)
  pub stale : (i : ℕ) → ¬ IsLive (entries_of k) i → HasTheSame e i d i
  pub once : AllDifferent d.changed → AllDifferent e.changed
  pub kept : (i : ℕ) → Contains d.changed i → Contains e.changed i
  pub noted : (i : ℕ) → ¬ Contains e.changed i → HasTheSame e i d i
  pub from : (i : ℕ) → Contains e.changed i → Contains d.changed i ⊎ (i < length d.values)
  pub follows : (c o : ℕ) → Contains (users_of d c) o → FollowsUser k cs s t d e c o
  pub only : (c o : ℕ) → Contains (users_of e c) o → (b : ℕ) × Contains (users_of d b) o × (found_in k b ≡ found_in k c)
  pub in_range : (c o : ℕ) → Contains (users_of e c) o → Contains (users_of d c) o ⊎ (c < length d.values)
