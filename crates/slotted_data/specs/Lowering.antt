-- Values that are merged into the data of a class, and who waits then.
--     quiet s              what is filed, where nothing waits
--     part_of x d w        the data in the words of the model, where these wait; x stands where there is no class
--     Puts c v s t d e     the class c has the data v; if it had other data, its users wait
--     Lowers a c v ..      v is merged into the data of c
--     HasUsers k n d       the first n classes are among the users of what their children find, and nobody is besides
--     IsReady k s d        there is data for each class of a graph at rest, and all its users are known
--     TakesValue a k o ..  what the filed node of o makes is merged into the data of its class
--     FallsBy a k d e n    from d to e the heights of the data of live classes fell by n
--     TakesTurns a k ..    a run of turns for data alone
--     RisesTo a k ..       one that leads to where nothing waits, and is noted
use Rattle.std.specs.Prelude.{◌≡◌, ◌⊎◌, ◌<◌, ◌≤◌, ℕ, suc, ◌+◌, ◌*◌, min, List, [], length, map, Some, Option, Contains, slice_get}
use Rattle.slotted_nodes.specs.Form.{Form}
use Rattle.slotted_model.specs.Rest.{AtRest}
use Rattle.slotted_model.specs.State.{Row}
use Rattle.slotted_model_analyses.specs.Analysis.{Analysis}
use Rattle.slotted_model_analyses.specs.DataPart.{DataPart, Merges, RunsWithData, heights_from, made}
use Rattle.slotted_classes.specs.Counts.{most_turns}
use Rattle.slotted_classes.specs.Kept.{Kept, entries_of}
use Rattle.slotted_hashcons.specs.Filed.{Filing}
use Rattle.slotted_hashcons.specs.FiledRows.{Rows, rows_in}
use Rattle.slotted_hashcons.specs.WellFiled.{state_in}
use Rattle.slotted_outlines.specs.BareNodes.{bare_node}
use Rattle.slotted_data.specs.Meaning.{Meaning}
use Rattle.slotted_data.specs.Held.{Held, HasValue, users_of}
use Rattle.slotted_data.specs.Made.{data_in, children_at, child_values}
use Rattle.slotted_data.specs.Users.{WaitEach, found_in}
use Rattle.slotted_data.specs.Counted.{most_fall, with_turns}

-- what is filed, where nothing waits
abbrev pub quiet : Rows → Rows
quiet s = record { filed = s.filed; waiting = [] }

-- the data in the words of the model
abbrev pub part_of : {D : Type 0} → D → Held D → List ℕ → DataPart D
part_of x d waiting = record { data_of = data_in x d.values; pending = waiting; changed = d.changed }

-- the class had other data: its users wait, and it waits to be modified
pub record PutsOther {D : Type 0} (c : ℕ) (v : D) (s t : Rows) (d e : Held D) : Type 0 where
  pub other : ¬ (slice_get d.values c ≡ Some v)
  pub value : HasValue d e c v
  pub waits : WaitEach s t (users_of d c)

abbrev pub Puts : {D : Type 0} → ℕ → D → Rows → Rows → Held D → Held D → Type 0
Puts c v s t d e = ((slice_get d.values c ≡ Some v) × (t ≡ s) × (e ≡ d)) ⊎ PutsOther c v s t d e

-- v is merged into what the class has
abbrev pub Lowers : {D : Type 0} → Meaning D → ℕ → D → Rows → Rows → Held D → Held D → Type 0
Lowers {D} a c v s t d e = (y : D) × (slice_get d.values c ≡ Some y) × Puts c (a.merge y v) s t d e

-- the first n classes are among the users of what their children find; and who is a user of a class has a child that finds what the class does
pub record HasUsers {D : Type 0} (k : Kept) (n : ℕ) (d : Held D) : Type 0 where
  pub cover : (o c : ℕ) → o < n → Contains (children_at k o) c → Contains (users_of d (found_in k c)) o
  pub only : (c o : ℕ) → Contains (users_of d c) o → (o < length k.classes) × Contains (map (found_in k) (children_at k o)) (found_in k c)
  pub within : (c o : ℕ) → Contains (users_of d c) o → c < length k.classes

pub record IsReady {D : Type 0} (k : Kept) (s : Rows) (d : Held D) : Type 0 where
  pub rest : AtRest (state_in k (quiet s))
  pub count : length d.values ≡ length k.classes
  pub users : HasUsers k (length k.classes) d

-- who stands over a class, and what is known of deaths, stays
pub record SameUsers {D : Type 0} (d e : Held D) : Type 0 where
  pub count : length e.values ≡ length d.values
  pub users : e.users ≡ d.users
  pub entered : e.entered ≡ d.entered
  pub carried : e.carried ≡ d.carried
  pub tall : e.tall ≡ d.tall
  pub counts : e.counts ≡ d.counts

-- what is filed of a class, if anything is, makes v of the data of its children
abbrev pub MakesValue : {D : Type 0} → Meaning D → Kept → List D → Option Filing → D → Type 0
MakesValue {D} a k values o v = (f : Form) × (m : List (ℕ × ℕ)) × (o ≡ Some (f, m))
    × ((x : D) → v ≡ a.make (bare_node f) (child_values k x values (length values) f))

-- what the filed node of the class o makes is merged into the data of what o finds
pub record TakesValue {D : Type 0} (a : Analysis D) (k : Kept) (o : ℕ) (s t : Rows) (d e : Held D) : Type 0 where
  pub filed : t.filed ≡ s.filed
  pub same : SameUsers d e
  pub merges : (x : D) (r : Row) → Contains (rows_in s.filed) r → r.source ≡ o →
      Merges a (state_in k (quiet s)) (part_of x d s.waiting) (found_in k o) (made a (part_of x d s.waiting) r.shape) (part_of x e t.waiting)

-- the heights of the data of live classes
abbrev pub heights_in : {D : Type 0} → Analysis D → Kept → D → Held D → ℕ
heights_in a k x d = heights_from a (data_in x d.values) 0 (entries_of k)

-- they fell by n
abbrev pub FallsBy : {D : Type 0} → Analysis D → Kept → Held D → Held D → ℕ → Type 0
FallsBy {D} a k d e n = (x : D) → heights_in a k x e + n ≡ heights_in a k x d

-- so many turns for data alone, by which heights fell by so much, as far as these are counted; the graph stays
pub record TakesTurns {D : Type 0} (a : Analysis D) (k : Kept) (s t : Rows) (d e : Held D) (turns fall : ℕ) : Type 0 where
  pub filed : t.filed ≡ s.filed
  pub same : SameUsers d e
  pub taken : ℕ
  pub fallen : ℕ
  pub turns_is : turns ≡ min taken most_turns
  pub fall_is : fall ≡ min fallen most_fall
  pub runs : (x : D) → RunsWithData a (state_in k (quiet s)) (part_of x d s.waiting) taken (state_in k (quiet s)) (part_of x e t.waiting)
  pub falls : FallsBy a k d e fallen

-- the totals over all rebuilds but those of data
abbrev pub totals_in : Kept → ℕ × ℕ
totals_in k = (k.counts.total_turns, k.counts.total_bound)

-- they lead to where nothing waits, and are noted; their bound allows so many
pub record RisesTo {D : Type 0} (a : Analysis D) (k : Kept) (s t : Rows) (d f : Held D) : Type 0 where
  pub risen : Held D
  pub turns : ℕ
  pub fall : ℕ
  pub nothing_waits : t.waiting ≡ []
  pub takes : TakesTurns a k s t d risen turns fall
  pub few : turns ≤ length (rows_in s.filed) * suc fall
  pub notes : f ≡ with_turns risen (length (rows_in s.filed)) fall turns (totals_in k)
