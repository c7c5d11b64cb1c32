-- The data of classes, with what has to be known to carry it along, and what each write leaves.
--     DataCounts           what turns for data did
--     Held D               the lists
--     FitsValues vs us w   there is a list of users, and a flag, for each class that has data
--     Notes c cs ds        c waits to be modified: it did, and nothing changed, or it is the last one now
--     HasNewValue d e v t  from d to e the next class has the data v
--     HasValue d e c v     from d to e the class c has the data v
use Rattle.std.specs.Prelude.{◌≡◌, ◌⊎◌, ◌≤◌, ℕ, List, [], ◌∷◌, ◌++◌, length, set, slice_index_or, Bool, false, Contains, ◌||◌}
use Rattle.slotted_classes.specs.Counts.{Counts, no_counts}
use Rattle.slotted_hashcons.specs.Waiting.{Waiting}

-- what turns for data did
pub record DataCounts : Type 0 where
  -- the last that followed one another, as a rebuild whose sizes are heights, less those that it left; and the totals over all of them
  pub own : Counts
  -- the totals over all other rebuilds, as they were at these turns
  pub rebuilt : ℕ × ℕ

abbrev pub no_turns : DataCounts
no_turns = record { own = no_counts; rebuilt = (0, 0) }

pub record Held (D : Type 0) : Type 0 where
  -- the data of each class
  pub values : List D
  -- for each class the sources of nodes with a child that finds it
  pub users : List (List ℕ)
  -- so many classes stand among the users of their children's classes
  pub entered : ℕ
  -- the classes that wait to be modified
  pub changed : List ℕ
  -- so many deaths have been carried
  pub carried : ℕ
  -- some class had data of a height above 0 when it was made
  pub tall : Bool
  -- what turns for data did
  pub counts : DataCounts

abbrev pub no_values : {D : Type 0} → Held D
no_values = record { values = []; users = []; entered = 0; changed = []; carried = 0; tall = false; counts = no_turns }

pub record FitsValues {D : Type 0} (values : List D) (users : List (List ℕ)) (w : Waiting) : Type 0 where
  pub lists : length values ≤ length users
  pub flags : length values ≤ w.count

abbrev pub Notes : ℕ → List ℕ → List ℕ → Type 0
Notes c cs ds = (Contains cs c × (ds ≡ cs)) ⊎ ((¬ Contains cs c) × (ds ≡ cs ++ c ∷ []))

-- the sources over a class
abbrev pub users_of : {D : Type 0} → Held D → ℕ → List ℕ
users_of d c = slice_index_or d.users c []

-- the next class has this data, nobody is over it, and it waits to be modified
pub record HasNewValue {D : Type 0} (d e : Held D) (v : D) (is_tall : Bool) : Type 0 where
  pub values : e.values ≡ d.values ++ v ∷ []
  pub users : e.users ≡ d.users ++ [] ∷ []
  pub entered : e.entered ≡ d.entered
  pub changed : Notes (length d.values) d.changed e.changed
  pub carried : e.carried ≡ d.carried
  pub tall : e.tall ≡ (d.tall || is_tall)
  pub counts : e.counts ≡ d.counts

-- the class has this data, and waits to be modified
pub record HasValue {D : Type 0} (d e : Held D) (c : ℕ) (v : D) : Type 0 where
  pub values : e.values ≡ set d.values c v
  pub users : e.users ≡ d.users
  pub entered : e.entered ≡ d.entered
  pub changed : Notes c d.changed e.changed
  pub carried : e.carried ≡ d.carried
  pub tall : e.tall ≡ d.tall
  pub counts : e.counts ≡ d.counts

-- one user more of a class
abbrev pub with_user : {D : Type 0} → Held D → ℕ → ℕ → Held D
with_user d c o = record d { users = set d.users c (slice_index_or d.users c [] ++ o ∷ []) }

-- nobody is over a class
abbrev pub with_users_taken : {D : Type 0} → Held D → ℕ → Held D
with_users_taken d c = record d { users = set d.users c [] }

abbrev pub with_entered : {D : Type 0} → Held D → ℕ → Held D
with_entered d n = record d { entered = n }

abbrev pub with_carried : {D : Type 0} → Held D → ℕ → Held D
with_carried d n = record d { carried = n }

-- no class waits to be modified
abbrev pub with_none_changed : {D : Type 0} → Held D → Held D
with_none_changed d = record d { changed = [] }
