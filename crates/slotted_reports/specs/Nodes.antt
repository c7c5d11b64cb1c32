-- The filed nodes of a class, ascending by their keys, with the names of an id.
--     key_at v i                the key that is filed of the class i
--     key_in form n             the key of the node n: its shape
--     Ascend form cmp fs        nodes of these forms ascend by the order of the language
--     HasKeyOf form v p         the key p.0 is filed of the class p.1
--     IsSourceOf k r a o        a node is filed of the class o, which finds what the id a finds
--     HasFreshNames t vs f      the table t knew no binder's name of f, and no free name but those of vs
--     IsAppliedNode t u k r a f a node that is looked up as what a finds, over ids that find, with names of a and others that the table t
--                               did not know and u knows
--     AreAppliedNodes           one such node for each of some sources, with its key
--     AreEnodes                 one for each source of the id's class, ascending by key
--     IsClassNode k r a f       a node that is looked up as what a finds, over ids that find, with names of a and numbers
--     AreClassNodes             one such node for each of some sources, with its key, in some order
--     AreNodesOf form k r a ns  one for each source of the id's class
--     places_at v o             how many places the key has that is filed of the class o
--     TakesForKeys r os t u     from t to u two fresh slots are made at most for each place of the keys of the classes os
--     HasLargeKeyOf r os        the key of one of the classes os has too many places
--     RunsOutForKeys r os t u   so many were not to be had from t on, and none is left in u, or the key of one of the classes os has too many places
--     slots_of_class k r c      two for each place of the keys whose classes find the class c
--     TakesForClasses, RunsOutForClasses     the same of the classes cs together
--     KnowsClassSlots t k       the table t knows the slots of each class
--     IsAppended xs ys          the text ys is xs and what stands behind it
use Rattle.std.specs.Prelude.{Contains, ◌≡◌, ◌⊎◌, ◌≤◌, ◌<◌, ◌+◌, ◌++◌, ◌*◌, ℕ, List, All, Option, None, Some, length, map, true, false}
use Rattle.std.specs.List.{sum_by}
use Rattle.std.specs.List.Sorted.{IsPermutation, IsSorted}
use Rattle.std.specs.declared.cmp.Ordering.{Ordering}
use Rattle.std.specs.Borrow.{Bor}
use Rattle.slotted_slots.specs.Maps.{is_among}
use Rattle.slotted_slots.specs.Table.{Table, is_known}
use Rattle.slotted_nodes.specs.Form.{Form, IsSmall}
use Rattle.slotted_languages.specs.NewNames.{BindersAreUnknown}
use Rattle.slotted_languages.specs.NodeTerm.{free_names_of}
use Rattle.slotted_languages.specs.Shape.{shape}
use Rattle.slotted_model.specs.Applied.{Applied, values}
use Rattle.slotted_model.specs.Find.{used_slots}
use Rattle.slotted_classes.specs.ChildIds.{child_ids}
use Rattle.slotted_classes.specs.Finding.{IsFindable}
use Rattle.slotted_classes.specs.Kept.{Kept, entries_of}
use Rattle.slotted_hashcons.specs.Filed.{Filing, HasKey, filed_of, no_row}
use Rattle.slotted_hashcons.specs.FiledRows.{IsFiled, Rows}
use Rattle.slotted_lookup.specs.Enodes.{AllKnownTo, HasNamesOrNumbers, IsLargeKeyOf, IsLookedUpAs, IsMet}
use Rattle.slotted_lookup.specs.Filling.{RunsOut}
use Rattle.slotted_lookup.specs.Reports.{class_sources}

-- the key, if something is filed
abbrev pub key_of : Option Filing → Form
key_of None = no_row.0
key_of (Some e) = e.0

abbrev pub key_at : List (Option Filing) → ℕ → Form
key_at v i = key_of (filed_of v i)

abbrev pub key_in : {L : Type 0} → (L → Form) → L → Form
key_in form n = (shape (form n)).0

-- there are values of the language with these forms, in order
pub record Ascend {L : Type 0} (form : L → Form) (cmp : L → L → Ordering) (fs : List Form) : Type 0 where
  pub nodes : List L
  pub forms : map form nodes ≡ fs
  pub sorted : IsSorted cmp nodes

abbrev pub HasKeyOf : {L : Type 0} → (L → Form) → List (Option Filing) → Bor L × ℕ → Type 0
HasKeyOf form v p = HasKey v p.1 (form p.0.now)

abbrev pub IsSourceOf : Kept → Rows → Applied → ℕ → Type 0
IsSourceOf k r a o = IsFiled r.filed o × IsMet k o a

pub record HasFreshNames (t : Table) (vs : List ℕ) (f : Form) : Type 0 where
  pub binders : BindersAreUnknown t f f
  pub free : (x : ℕ) → is_among x (free_names_of f) ≡ true → (is_among x vs ≡ true) ⊎ (is_known t x ≡ false)

pub record IsAppliedNode (t u : Table) (k : Kept) (r : Rows) (a : Applied) (f : Form) : Type 0 where
  pub found : IsLookedUpAs k r a f
  pub small : IsSmall f
  pub known : AllKnownTo u f.names
  pub fresh : HasFreshNames t (values a.1) f
  pub children : All (IsFindable k) (child_ids f)

-- one for each of the sources os, with its key
pub record AreAppliedNodes {L : Type 0} (form : L → Form) (t u : Table) (k : Kept) (r : Rows) (a : Applied) (os : List ℕ) (ns : List L) : Type 0 where
  pub keys : map (key_in form) ns ≡ map (key_at r.filed) os
  pub each : All (λ n. IsAppliedNode t u k r a (form n)) ns

-- one for each source of the id's class, ascending by key
pub record AreEnodes {L : Type 0} (form : L → Form) (cmp : L → L → Ordering) (t u : Table) (k : Kept) (r : Rows) (a : Applied) (ns : List L) : Type 0 where
  pub sources : List ℕ
  pub same : IsPermutation (class_sources k r a.0) sources
  pub nodes : AreAppliedNodes form t u k r a sources ns
  pub ascend : Ascend form cmp (map (key_in form) ns)

pub record IsClassNode (k : Kept) (r : Rows) (a : Applied) (f : Form) : Type 0 where
  pub found : IsLookedUpAs k r a f
  pub small : IsSmall f
  pub names : HasNamesOrNumbers (values a.1) f
  pub children : All (IsFindable k) (child_ids f)

-- one for each of the sources os, with its key
pub record AreClassNodes {L : Type 0} (form : L → Form) (k : Kept) (r : Rows) (a : Applied) (os : List ℕ) (ns : List L) : Type 0 where
  pub keys : IsPermutation (map (key_at r.filed) os) (map (key_in form) ns)
  pub each : All (λ n. IsClassNode k r a (form n)) ns

-- one for each source of the id's class
abbrev pub AreNodesOf : {L : Type 0} → (L → Form) → Kept → Rows → Applied → List L → Type 0
AreNodesOf form k r a ns = AreClassNodes form k r a (class_sources k r a.0) ns

abbrev pub places_at : List (Option Filing) → ℕ → ℕ
places_at v o = length (key_at v o).names

abbrev pub TakesForKeys : Rows → List ℕ → Table → Table → Type 0
TakesForKeys r os t u = u.fresh ≤ t.fresh + 2 * sum_by (places_at r.filed) os

abbrev pub HasLargeKey : Rows → Type 0
HasLargeKey r = (o : ℕ) × IsLargeKeyOf r o

abbrev pub HasLargeKeyOf : Rows → List ℕ → Type 0
HasLargeKeyOf r os = (o : ℕ) × Contains os o × IsLargeKeyOf r o

abbrev pub RunsOutForKeys : Rows → List ℕ → Table → Table → Type 0
RunsOutForKeys r os t u = RunsOut (2 * sum_by (places_at r.filed) os) t u ⊎ HasLargeKeyOf r os

-- of classes, with the keys whose classes find them

abbrev pub slots_of_class : Kept → Rows → ℕ → ℕ
slots_of_class k r c = 2 * sum_by (places_at r.filed) (class_sources k r c)

abbrev pub TakesForClasses : Kept → Rows → List ℕ → Table → Table → Type 0
TakesForClasses k r cs t u = u.fresh ≤ t.fresh + sum_by (slots_of_class k r) cs

abbrev pub RunsOutForClasses : Kept → Rows → List ℕ → Table → Table → Type 0
RunsOutForClasses k r cs t u = RunsOut (sum_by (slots_of_class k r) cs) t u ⊎ HasLargeKey r

abbrev pub KnowsClassSlots : Table → Kept → Type 0
KnowsClassSlots t k = (i : ℕ) → i < length k.classes → AllKnownTo t (used_slots (entries_of k) i)

-- of texts

abbrev pub IsAppended : List ℕ → List ℕ → Type 0
IsAppended xs ys = (bs : List ℕ) × (ys ≡ xs ++ bs)
