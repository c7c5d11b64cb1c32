-- Who stands over a class, as it fits with what is filed and with what waits.
--     HasChild v i c         a child of the node that is filed of i is of the class c
--     FitTogether v us w     each child class of a filed node has the node's source as a user
--     WaitsMore v c w u      from w to u more classes wait, each with a child of the class c
--     AreUsedMore us vs      from us to vs each class has more users
use Rattle.std.specs.Prelude.{◌≡◌, ◌⊎◌, ◌<◌, ◌≤◌, ℕ, List, [], ◌++◌, length, Option, Some, Contains, slice_index_or}
use Rattle.slotted_nodes.specs.Form.{Form}
use Rattle.slotted_model.specs.Correspondence.{AllDifferent}
use Rattle.slotted_hashcons.specs.Filed.{Filing, filed_of}
use Rattle.slotted_hashcons.specs.FiledRows.{IsFiled, key_children}
use Rattle.slotted_hashcons.specs.Waiting.{Waiting}

-- a child of the node that is filed of the class i is of the class c
pub record HasChild (v : List (Option Filing)) (i c : ℕ) : Type 0 where
  pub key : Form
  pub names : List (ℕ × ℕ)
  pub filed : filed_of v i ≡ Some (key, names)
  pub child : Contains (key_children key) c

-- i is a user of the class c
abbrev pub IsUser : List (List ℕ) → ℕ → ℕ → Type 0
IsUser users c i = Contains (slice_index_or users c []) i

-- i is a user of each child class of what is filed of it
abbrev pub UsesFiled : List (List ℕ) → List (Option Filing) → ℕ → Type 0
UsesFiled users v i = (c : ℕ) → HasChild v i c → IsUser users c i

pub record FitTogether (v : List (Option Filing)) (users : List (List ℕ)) (w : Waiting) : Type 0 where
  -- there is a list of users, and a flag, for each class
  pub lists : length v ≤ length users
  pub flags : length v ≤ w.count
  pub once : AllDifferent w.queue
  pub filed : (i : ℕ) → Contains w.queue i → IsFiled v i
  pub children : (i c : ℕ) → HasChild v i c → c < length v
  pub over : (i : ℕ) → UsesFiled users v i

pub record WaitsMore (v : List (Option Filing)) (c : ℕ) (w u : Waiting) : Type 0 where
  pub same : u.count ≡ w.count
  pub once : AllDifferent u.queue
  pub kept : (i : ℕ) → Contains w.queue i → Contains u.queue i
  pub from : (i : ℕ) → Contains u.queue i → Contains w.queue i ⊎ HasChild v i c
  pub more : List ℕ
  pub grows : u.queue ≡ w.queue ++ more

-- each of these sources waits that has a child of the class c
abbrev pub WaitOver : List ℕ → List (Option Filing) → ℕ → List ℕ → Type 0
WaitOver sources v c q = (i : ℕ) → Contains sources i → HasChild v i c → Contains q i

pub record AreUsedMore (us vs : List (List ℕ)) : Type 0 where
  pub lists : length us ≤ length vs
  pub kept : (c i : ℕ) → IsUser us c i → IsUser vs c i

-- i is a user of each of these classes
abbrev pub UsesEach : List (List ℕ) → List ℕ → ℕ → Type 0
UsesEach users cs i = (c : ℕ) → Contains cs c → IsUser users c i
