-- Who stands over a class, and what waits.
--     WaitsFiled s t       from s to t more sources of filed nodes wait
--     WaitEach s t os      from s to t each of these sources waits of which a node is filed
--     SameValues d e       no data has changed
--     EntersChildren k o cs ..  the class o is among the users of what these classes find
--     EntersUsers k n m ..      so are the classes from n on, below m, for all their children
use Rattle.std.specs.Prelude.{◌≡◌, ◌⊎◌, ◌<◌, ◌≤◌, ℕ, List, map, Contains}
use Rattle.slotted_model.specs.Correspondence.{AllDifferent}
use Rattle.slotted_model.specs.Find.{find_class}
use Rattle.slotted_classes.specs.Kept.{Kept, entries_of}
use Rattle.slotted_hashcons.specs.FiledRows.{IsFiled, Rows}
use Rattle.slotted_data.specs.Held.{Held, users_of}
use Rattle.slotted_data.specs.Made.{children_at}

-- no node is filed anew, what waited still waits, each once, and whatever waits besides has a node filed
pub record WaitsFiled (s t : Rows) : Type 0 where
  pub same : t.filed ≡ s.filed
  pub kept : (o : ℕ) → Contains s.waiting o → Contains t.waiting o
  pub once : AllDifferent s.waiting → AllDifferent t.waiting
  pub from : (o : ℕ) → Contains t.waiting o → Contains s.waiting o ⊎ IsFiled s.filed o

-- and these wait, of which a node is filed, and no others
pub record WaitEach (s t : Rows) (os : List ℕ) : Type 0 where
  pub filed : WaitsFiled s t
  pub waits : (o : ℕ) → Contains os o → IsFiled s.filed o → Contains t.waiting o
  pub from : (o : ℕ) → Contains t.waiting o → Contains s.waiting o ⊎ Contains os o

pub record SameValues {D : Type 0} (d e : Held D) : Type 0 where
  pub values : e.values ≡ d.values
  pub changed : e.changed ≡ d.changed
  pub carried : e.carried ≡ d.carried
  pub tall : e.tall ≡ d.tall
  pub counts : e.counts ≡ d.counts

-- what c finds
abbrev pub found_in : Kept → ℕ → ℕ
found_in k c = find_class (entries_of k) c

-- what c finds is older than the class o, or o waits if a node is filed of it
abbrev pub IsOlderOrWaits : Kept → Rows → Rows → ℕ → ℕ → Type 0
IsOlderOrWaits k s t o c = (found_in k c < o) ⊎ (IsFiled s.filed o → Contains t.waiting o)

-- the class o is among the users of what each of these finds, and waits if one of them is not older
pub record EntersChildren {D : Type 0} (k : Kept) (o : ℕ) (cs : List ℕ) (s t : Rows) (d e : Held D) : Type 0 where
  pub same : SameValues d e
  pub entered : e.entered ≡ d.entered
  pub rows : WaitsFiled s t
  pub kept : (c p : ℕ) → Contains (users_of d c) p → Contains (users_of e c) p
  pub cover : (c : ℕ) → Contains cs c → Contains (users_of e (found_in k c)) o
  pub only : (c p : ℕ) → Contains (users_of e c) p → Contains (users_of d c) p ⊎ ((p ≡ o) × Contains (map (found_in k) cs) c)
  pub waits : (c : ℕ) → Contains cs c → IsOlderOrWaits k s t o c

-- so it is of what each of its children finds
abbrev pub EntersClass : {D : Type 0} → Kept → ℕ → Rows → Rows → Held D → Held D → Type 0
EntersClass k o s t d e = EntersChildren k o (children_at k o) s t d e

-- each class from n on, below m, is among the users of what its children find, and waits if one of these is not older
pub record EntersUsers {D : Type 0} (k : Kept) (n m : ℕ) (s t : Rows) (d e : Held D) : Type 0 where
  pub same : SameValues d e
  pub rows : WaitsFiled s t
  pub kept : (c p : ℕ) → Contains (users_of d c) p → Contains (users_of e c) p
  pub cover : (o c : ℕ) → n ≤ o → o < m → Contains (children_at k o) c → Contains (users_of e (found_in k c)) o
  pub only : (c p : ℕ) → Contains (users_of e c) p → Contains (users_of d c) p ⊎ ((p < m) × Contains (map (found_in k) (children_at k p)) c)
  pub waits : (o c : ℕ) → n ≤ o → o < m → Contains (children_at k o) c → IsOlderOrWaits k s t o c
