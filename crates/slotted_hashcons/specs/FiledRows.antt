-- The filed nodes, and the classes that wait to be filed anew, in the words of the model.
--     row_of_entry e     a row of the code: the model numbers a free name by the place where it first stands, the code by what stands before
--     rows_in v          the rows of what is filed of each class, from the last class to the first
--     key_children f     the classes of the children of a key
--     Rows               what is filed of each class, and which classes wait, the first one first
--     rows_state s       the model's graph with these rows, and what waits
use Rattle.std.specs.Prelude.{◌≡◌, ◌⊎◌, ◌<◌, ℕ, suc, List, [], ◌∷◌, ◌++◌, set, Option, Some, None, Contains, refl}
use Rattle.std.specs.List.{zip}
use Rattle.std.specs.Coded.{Coded, code_by, coded×, coded_ℕ, coded_list}
use Rattle.slotted_theory.specs.Shape as theory
use Rattle.slotted_nodes.specs.Form.{Form}
use Rattle.slotted_languages.specs.NodeTerm.{nameless_node}
use Rattle.slotted_model.specs.Applied.{values}
use Rattle.slotted_model.specs.Ascending.{names}
use Rattle.slotted_model.specs.State.{Row, State, child_classes}
use Rattle.slotted_classes.specs.Kept.{RowEntry}
use Rattle.slotted_hashcons.specs.Filed.{Filing, filed_of, filings_code}

-- a row in the model's words
abbrev pub row_of_entry : RowEntry → Row
row_of_entry e = record {
  shape = theory.shape (nameless_node e.0);
  source = e.1.0;
  slots = zip (names (theory.shape (nameless_node e.0))) (values e.1.1);
}

-- the row of what is filed of the class i, if anything is
abbrev pub row_at : ℕ → Option Filing → List Row
row_at i None = []
row_at i (Some e) = row_of_entry (e.0, (i, e.1)) ∷ []

-- the rows of the classes from the number i on
abbrev pub rows_from : ℕ → List (Option Filing) → List Row
rows_from i [] = []
rows_from i (x ∷ v) = rows_from (suc i) v ++ row_at i x

abbrev pub rows_in : List (Option Filing) → List Row
rows_in v = rows_from 0 v

-- the classes of the children of a key
abbrev pub key_children : Form → List ℕ
key_children f = child_classes (nameless_node f).args

-- something is filed of the class i
abbrev pub IsFiled : List (Option Filing) → ℕ → Type 0
IsFiled v i = (e : Filing) × (filed_of v i ≡ Some e)

-- the children of the key are of classes below n
abbrev pub HasChildrenBelow : ℕ → Form → Type 0
HasChildrenBelow n f = (c : ℕ) → Contains (key_children f) c → c < n

pub record Rows : Type 0 where
  pub filed : List (Option Filing)
  pub waiting : List ℕ

abbrev pub rows_code : Coded Rows
rows_code = code_by (List (Option Filing) × List ℕ) (coded× filings_code (coded_list coded_ℕ)) (λ s. (s.filed, s.waiting)) (λ p. record { filed = p.0; waiting = p.1 }) (λ _. refl)

abbrev pub no_rows : Rows
no_rows = record { filed = []; waiting = [] }

-- there is one class more, of which nothing is filed
abbrev pub with_class : Rows → Rows
with_class s = record { filed = s.filed ++ None ∷ []; waiting = s.waiting }

-- a key is filed of the class i, with the slot of the class for each number of it
abbrev pub with_filed : Rows → ℕ → Form → List (ℕ × ℕ) → Rows
with_filed s i f m = record { filed = set s.filed i (Some (f, m)); waiting = s.waiting }

-- the class i waits: it did, and nothing changed, or it is the last one now
abbrev pub QueuesUp : Rows → Rows → ℕ → Type 0
QueuesUp s t i = (Contains s.waiting i × (t ≡ s)) ⊎
    ((¬ Contains s.waiting i) × (t ≡ record { filed = s.filed; waiting = s.waiting ++ i ∷ [] }))

-- the first of those that waited waits no more, and this is filed of it
pub record TakesTurn (s t : Rows) (i : ℕ) (x : Option Filing) : Type 0 where
  pub filed : t.filed ≡ set s.filed i x
  pub waiting : s.waiting ≡ i ∷ t.waiting

-- no node is filed anew, and what waited stands first in what waits
pub record WaitsOn (s t : Rows) : Type 0 where
  pub same : t.filed ≡ s.filed
  pub more : List ℕ
  pub waits : t.waiting ≡ s.waiting ++ more

abbrev pub rows_state : Rows → State
rows_state s = record { nodes = []; found = []; proofs = []; rows = rows_in s.filed; waiting = s.waiting; symmetries = [] }
