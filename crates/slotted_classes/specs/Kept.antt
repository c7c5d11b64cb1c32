-- What the classes of a graph are kept as: each class with its canonical node and its find entry, the filed nodes by shape, the listed
-- symmetries, the proof list, the number of links, the classes that died, and what rebuilds did.
--     Kept           the lists
--     nodes_of k     the canonical nodes without bound names
--     entries_of k   the find entries
--     size_of k      the live classes and their slots
--     proofs_of k    the proof list
--     found rs f     what is filed for a shape
--     with_..        what each write leaves
use Rattle.std.specs.Prelude.{◌≡◌, ℕ, suc, ◌+◌, ◌^◌, ◌≤◌, ◌<◌, ◌↔◌, Contains, List, [], ◌∷◌, ◌++◌, length, map, set, Bool, true, false, Option, Some, None, String, option_map, string_bytes, cond, nat_eq, slice_index_or, refl}
use Rattle.std.specs.Coded.{Coded, code_by, coded×, coded_ℕ, coded_bool, coded_list}
use Rattle.slotted_slots.specs.declared.types.AppliedId.{AppliedId}
use Rattle.slotted_slots.specs.Table.{slot_limit}
use Rattle.slotted_theory.specs.Nameless.{DTerm}
use Rattle.slotted_nodes.specs.Form.{Form, leaf}
use Rattle.slotted_languages.specs.NodeTerm.{nameless_node}
use Rattle.slotted_languages.specs.Shape.{shape}
use Rattle.slotted_model.specs.Applied.{Applied, keys}
use Rattle.slotted_model.specs.Find.{Entry, IsLive, entry_at}
use Rattle.slotted_model.specs.Rest.{entry_size, size_from}
use Rattle.slotted_model.specs.ProofList.{ProofEntry, Step}
use Rattle.slotted_proofs.specs.Entries.{Proven, Enters, reflexive_entry, asserted_entry}
use Rattle.slotted_proofs.specs.Entries as list
use Rattle.slotted_proofs.specs.declared.equation.Equation.{Equation as Sides}
use Rattle.slotted_proofs.specs.Equations.{to_applied, statement_of}
use Rattle.slotted_proofs.specs.Steps.{by_step}
use Rattle.slotted_classes.specs.Counts.{Counts, counts_code, no_counts}
use Rattle.slotted_classes.specs.EntryCode.{entry_code, pairs_code, proven_code}
use Rattle.slotted_classes.specs.FormCode.{form_code, form_is}
use Rattle.slotted_classes.specs.Names.{between, with_put}
use Rattle.slotted_classes.specs.declared.store.Class.{Class}
use Rattle.slotted_classes.specs.declared.store.Row.{Row}
use Rattle.slotted_classes.specs.declared.store.Symmetry.{Symmetry}

-- a canonical node, with the find entry of its class
abbrev pub ClassEntry : Type 0
ClassEntry = Form × Entry

-- the shape of a filed node, the class that it was filed for, and the slot of that class for each number of the shape
abbrev pub RowEntry : Type 0
RowEntry = Form × (ℕ × List (ℕ × ℕ))

-- the two sides of a listed symmetry, and the number of its proof
abbrev pub SymmetryEntry : Type 0
SymmetryEntry = (Applied × Applied) × ℕ

pub record Kept : Type 0 where
  pub classes : List ClassEntry
  pub rows : List RowEntry
  pub symmetries : List SymmetryEntry
  -- a slot was dropped since all symmetries were found aligned
  pub dropped : Bool
  pub proofs : List Proven
  pub moment : ℕ
  -- the classes that died, in order
  pub deaths : List ℕ
  -- what rebuilds did
  pub counts : Counts

-- how they are told apart
abbrev id_code : Coded Applied
id_code = coded× coded_ℕ pairs_code

abbrev pub symmetry_code : Coded SymmetryEntry
symmetry_code = coded× (coded× id_code id_code) coded_ℕ

abbrev pub kept_code : Coded Kept
kept_code =
    code_by (List ClassEntry × (List RowEntry × (List SymmetryEntry × (Bool × (List Proven × (ℕ × (List ℕ × Counts)))))))
    (coded× (coded_list (coded× form_code entry_code)) (coded× (coded_list (coded× form_code (coded× coded_ℕ pairs_code))) (coded× (coded_list symmetry_code) (coded× coded_bool (coded× (coded_list proven_code) (coded× coded_ℕ (coded× (coded_list coded_ℕ) counts_code)))))))
    (λ k. (k.classes, (k.rows, (k.symmetries, (k.dropped, (k.proofs, (k.moment, (k.deaths, k.counts))))))))
    (λ p. record { classes = p.0; rows = p.1.0; symmetries = p.1.1.0; dropped = p.1.1.1.0; proofs = p.1.1.1.1.0; moment = p.1.1.1.1.1.0; deaths = p.1.1.1.1.1.1.0; counts = p.1.1.1.1.1.1.1 }) (λ _. refl)

abbrev pub nothing : Kept
nothing = record { classes = []; rows = []; symmetries = []; dropped = false; proofs = []; moment = 0; deaths = []; counts = no_counts }

abbrev pub no_form : Form
no_form = record { operator = 0; payloads = []; tree = leaf; names = [] }

abbrev pub no_entry : Entry
no_entry = record { class = 0; pairs = []; proof = 0; died = 0 }

abbrev pub class_at : Kept → ℕ → ClassEntry
class_at k i = slice_index_or k.classes i (no_form, no_entry)

-- the canonical node of a class, and its find entry
abbrev pub node_at : Kept → ℕ → Form
node_at k i = (class_at k i).0

abbrev pub find_at : Kept → ℕ → Entry
find_at k i = (class_at k i).1

-- how many of these classes, of which the first has the number n, lead to another class
abbrev pub dead_at : ℕ → ClassEntry → ℕ
dead_at n c = cond (nat_eq c.1.class n) 0 1

abbrev pub dead_from : ℕ → List ClassEntry → ℕ
dead_from n [] = 0
dead_from n (c ∷ cs) = dead_at n c + dead_from (suc n) cs

-- the find entries of classes
abbrev pub entries_in : List ClassEntry → List Entry
entries_in = map (λ c. c.1)

-- these are the classes that lead to another class
abbrev pub ListsDead : List ℕ → List Entry → Type 0
ListsDead deaths found = (i : ℕ) → Contains deaths i ↔ ((i < length found) × (¬ IsLive found i))

-- each class has few slots
abbrev pub AreNarrow : List Entry → Type 0
AreNarrow found = (i : ℕ) → i < length found → entry_size i (entry_at found i) ≤ 2 ^ 64

-- what is counted beside the classes: there were no more links than classes that lead to another one, the size is that of the live classes,
-- and those that died are listed
pub record IsCounted (moment size : ℕ) (deaths : List ℕ) (classes : List ClassEntry) : Type 0 where
  pub links : moment ≤ dead_from 0 classes
  pub sized : size ≡ size_from 0 (entries_in classes)
  pub narrow : AreNarrow (entries_in classes)
  pub dead : ListsDead deaths (entries_in classes)

-- the slots of the class that a row files, one for each number of the shape
abbrev pub names_at : Kept → ℕ → List (ℕ × ℕ)
names_at k i = (slice_index_or k.rows i (no_form, (0, []))).1.1

-- the canonical nodes without bound names
abbrev pub nodes_of : Kept → List DTerm
nodes_of k = map (λ c. nameless_node c.0) k.classes

-- the find entries
abbrev pub entries_of : Kept → List Entry
entries_of k = map (λ c. c.1) k.classes

-- how many live classes and slots of them there are
abbrev pub size_of : Kept → ℕ
size_of k = size_from 0 (entries_of k)

-- the proof list
abbrev pub proofs_of : Kept → List ProofEntry
proofs_of k = list.entries_of k.proofs

-- what is filed for a shape
abbrev pub found : List RowEntry → Form → Option (ℕ × List (ℕ × ℕ))
found [] f = None
found (e ∷ es) f = cond (form_is f e.0) (Some e.1) (found es f)

-- one more class, and the row that files its node
abbrev pub with_filed : Kept → Form → ℕ × List (ℕ × ℕ) → ClassEntry → Kept
with_filed k f r c = record {
  classes = k.classes ++ c ∷ [];
  rows = k.rows ++ (f, r) ∷ [];
  symmetries = k.symmetries;
  dropped = k.dropped;
  proofs = k.proofs;
  moment = k.moment;
  deaths = k.deaths;
  counts = k.counts;
}

-- another proof list
abbrev pub with_proofs : Kept → List Proven → Kept
with_proofs k ps = record {
  classes = k.classes;
  rows = k.rows;
  symmetries = k.symmetries;
  dropped = k.dropped;
  proofs = ps;
  moment = k.moment;
  deaths = k.deaths;
  counts = k.counts;
}

-- a class for a shape with the slots of m for its numbers, which leads to itself by the proof p
abbrev pub with_new_class : Kept → Form → List (ℕ × ℕ) → ℕ → Kept
with_new_class k f m p = with_filed k f (length k.classes, m) (with_put m f, record { class = length k.classes; pairs = between m m; proof = p; died = 0 })

-- there is one class more, for a shape with the slots of m for its numbers, and the entry that it equals itself
pub record MakesClass (k l : Kept) (f : Form) (m : List (ℕ × ℕ)) : Type 0 where
  pub proof : ℕ
  pub proofs : List Proven
  pub enters : Enters k.proofs proofs (reflexive_entry (length k.classes) (keys (between m m))) proof
  pub class : l ≡ with_new_class (with_proofs k proofs) f m proof

-- the class i dies and leads to the class c with these pairs, by the proof p
abbrev pub with_linked : Kept → ℕ → ℕ → List (ℕ × ℕ) → ℕ → Kept
with_linked k i c m p = record {
  classes = set k.classes i (node_at k i, record { class = c; pairs = m; proof = p; died = k.moment });
  rows = k.rows;
  symmetries = k.symmetries;
  dropped = k.dropped;
  proofs = k.proofs;
  moment = suc k.moment;
  deaths = k.deaths ++ i ∷ [];
  counts = k.counts;
}

-- the dead class i leads to the class c with these pairs, by the proof p, and keeps the moment of its death
abbrev pub with_shortcut : Kept → ℕ → ℕ → List (ℕ × ℕ) → ℕ → Kept
with_shortcut k i c m p = record {
  classes = set k.classes i (node_at k i, record { class = c; pairs = m; proof = p; died = (find_at k i).died });
  rows = k.rows;
  symmetries = k.symmetries;
  dropped = k.dropped;
  proofs = k.proofs;
  moment = k.moment;
  deaths = k.deaths;
  counts = k.counts;
}

-- the live class i keeps the slots of these pairs alone, by the proof p
abbrev pub with_fewer : Kept → ℕ → List (ℕ × ℕ) → ℕ → Kept
with_fewer k i m p = record {
  classes = set k.classes i (node_at k i, record { class = i; pairs = m; proof = p; died = 0 });
  rows = k.rows;
  symmetries = k.symmetries;
  dropped = true;
  proofs = k.proofs;
  moment = k.moment;
  deaths = k.deaths;
  counts = k.counts;
}

-- one more symmetry is listed
abbrev pub with_listed : Kept → SymmetryEntry → Kept
with_listed k y = record {
  classes = k.classes;
  rows = k.rows;
  symmetries = k.symmetries ++ y ∷ [];
  dropped = k.dropped;
  proofs = k.proofs;
  moment = k.moment;
  deaths = k.deaths;
  counts = k.counts;
}

-- all symmetries are known to be aligned
abbrev pub with_settled : Kept → Kept
with_settled k = record {
  classes = k.classes;
  rows = k.rows;
  symmetries = k.symmetries;
  dropped = false;
  proofs = k.proofs;
  moment = k.moment;
  deaths = k.deaths;
  counts = k.counts;
}

-- other counts
abbrev pub with_counts : Kept → Counts → Kept
with_counts k c = record {
  classes = k.classes;
  rows = k.rows;
  symmetries = k.symmetries;
  dropped = k.dropped;
  proofs = k.proofs;
  moment = k.moment;
  deaths = k.deaths;
  counts = c;
}

-- the statement of x stands at p in the proof list, and nothing else changed
pub record EntersIn (k l : Kept) (x : Proven) (p : ℕ) : Type 0 where
  pub proofs : List Proven
  pub enters : Enters k.proofs proofs x p
  pub kept : l ≡ with_proofs k proofs

-- the text of an assertion, if there is one
abbrev pub text_bytes : {Z : Type 0} → Option (String Z) → Option (List ℕ)
text_bytes text = option_map string_bytes text

-- the asserted equation of a and b stands at p, with the text if it is new
abbrev pub EntersAsserted : Kept → Kept → AppliedId → AppliedId → Option (List ℕ) → ℕ → Type 0
EntersAsserted k l a b text p = EntersIn k l (asserted_entry (to_applied a) (to_applied b) text) p

-- the equation is entered by the step: it stands at p, and nothing else changed
abbrev pub EntersBy : Kept → Kept → Sides → Step → ℕ → Type 0
EntersBy k l e s p = EntersIn k l (by_step (statement_of e) s) p

-- the left slots of what stands at p and the right slots of what stands at q are too many to be numbered
abbrev pub HasManySlots : Kept → ℕ → ℕ → Type 0
HasManySlots k p q = slot_limit ≤ length (list.statement_at k.proofs p).left_slots + length (list.statement_at k.proofs q).right_slots

-- the rows of classes from the number i on: each canonical node is filed by its shape
abbrev pub rows_from : ℕ → List ClassEntry → List RowEntry
rows_from i [] = []
rows_from i (c ∷ cs) = ((shape c.0).0, (i, (shape c.0).1)) ∷ rows_from (suc i) cs

-- a class of the code as the lists have it
abbrev pub class_entry : {A : Type 0} → (A → Form) → Class A → ClassEntry
class_entry form c = (form c.node, record { class = c.find.id.0; pairs = c.find.m; proof = c.proof; died = c.died })

-- a filed node of the code as the lists have it
abbrev pub row_entry : {A : Type 0} → (A → Form) → A × Row → RowEntry
row_entry form e = (form e.0, (e.1.source.0, e.1.names))

-- a listed symmetry of the code as the lists have it
abbrev pub symmetry_entry : Symmetry → SymmetryEntry
symmetry_entry y = ((to_applied y.equation.l, to_applied y.equation.r), y.proof)

-- the class of the code is filed by this row
abbrev pub with_class : {A : Type 0} → (A → Form) → Kept → A → Row → Class A → Kept
with_class form k shape row class = with_filed k (form shape) (row.source.0, row.names) (class_entry form class)
