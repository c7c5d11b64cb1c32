-- What contracts see of a graph: whether it failed, its table of slots, its classes, finds and proofs as lists, its filed nodes, and
-- what its analysis keeps.
--     empty_graph t                      the graph without classes
--     IsFullId g a                       an id with names for all slots of its class
--     id_of_term g t                     the id that the term has by canonical nodes
--     MakesAtMost n t u                  from t to u the table makes at most n fresh slots
--     RunsOut n t u                      n more were not to be had
--     HasNewClass                        there is one class more, for a node
use Rattle.std.specs.Prelude.{◌≡◌, ◌⊎◌, ℕ, ◌<◌, ◌≤◌, Bool, false, List, [], ◌∷◌, ◌++◌, length, Contains, Option}
use Rattle.std.specs.Coded.{Coded, code_by, coded×, coded_bool, coded_ℕ, coded_list}
use base.Stored.{Gv, gnil}
use Rattle.std.specs.Prelude.{refl}
use Rattle.slotted_theory.specs.Term.{Term}
use Rattle.slotted_theory.specs.Nameless.{DTerm, nameless}
use Rattle.slotted_theory.specs.Shape.{shape}
use Rattle.slotted_slots.specs.declared.types.AppliedId.{AppliedId}
use Rattle.slotted_slots.specs.Table.{Table, slot_limit, fresh_slot, KnowsMore, AllKnown}
use Rattle.slotted_nodes.specs.Form.{Form}
use Rattle.slotted_model.specs.Applied.{Applied, values}
use Rattle.slotted_model.specs.Classes.{canonical_slots, IsFull}
use Rattle.slotted_model.specs.Ids.{id_of}
use Rattle.slotted_model.specs.State.{Row}
pub use Rattle.slotted_lookup.specs.Filling.{MakesAtMost, RunsOut}
use Rattle.slotted_proofs.specs.Equations.{to_applied}
use Rattle.slotted_operations.specs.Image.{Image, no_classes, NewClassesAre, IsIdOfSubterm, RecordsFilled, image_code}
use Rattle.slotted_operations.specs.Places.{term_places, term_slots}
use Rattle.slotted_operations.specs.TermCode.{nameless_code}
use Rattle.slotted_classes.specs.EntryCode.{pairs_code}

-- the filed nodes, by which nodes are looked up, are told by rows: for each its shape, the class that it comes from, and that class's canonical
-- slot for each number of the shape
pub record Graph : Type 0 where
  pub failed : Bool
  pub table : Table
  pub image : Image
  pub filed : List Row
  -- what the analysis keeps of the classes, by its code, which tells all of it apart: so graphs over any analysis have values of one type
  pub part : Gv

abbrev table_code : Coded Table
table_code = code_by (ℕ × List (List ℕ)) (coded× coded_ℕ (coded_list (coded_list coded_ℕ))) (λ t. (t.fresh, t.names)) (λ p. record { fresh = p.0; names = p.1 }) (λ _. refl)

abbrev row_code : Coded Row
row_code =
    code_by (DTerm × (ℕ × List (ℕ × ℕ))) (coded× nameless_code (coded× coded_ℕ pairs_code)) (λ r. (r.shape, (r.source, r.slots))) (λ p. record { shape = p.0; source = p.1.0; slots = p.1.1 }) (λ _. refl)

abbrev part_code : Coded Gv
part_code = record { code = λ x. x; inj = λ _ _ e. e }

-- how graphs are told apart
abbrev pub graph_code : Coded Graph
graph_code =
    code_by (Bool × (Table × (Image × (List Row × Gv)))) (coded× coded_bool (coded× table_code (coded× image_code (coded× (coded_list row_code) part_code))))
    (λ g. (g.failed, (g.table, (g.image, (g.filed, g.part)))))
    (λ p. record { failed = p.0; table = p.1.0; image = p.1.1.0; filed = p.1.1.1.0; part = p.1.1.1.1 }) (λ _. refl)

-- the graph without classes, over this table
abbrev pub empty_graph : Table → Graph
empty_graph t = record { failed = false; table = t; image = no_classes; filed = []; part = gnil }

-- the totals over all rebuilds: of turns, and of their bounds
abbrev pub totals_of : Graph → ℕ × ℕ
totals_of g = (g.image.counts.total_turns, g.image.counts.total_bound)

-- from g to h the table of slots alone changes, and it keeps what it knew
pub record OnlyReads (g h : Graph) : Type 0 where
  pub image : h.image ≡ g.image
  pub filed : h.filed ≡ g.filed
  pub part : h.part ≡ g.part
  pub failed : h.failed ≡ g.failed
  pub more : KnowsMore g.table h.table

-- the same, and the table keeps no new name: it makes fresh slots at most
pub record OnlyTakesSlots (g h : Graph) : Type 0 where
  pub reads : OnlyReads g h
  pub names : h.table.names ≡ g.table.names

-- a class of the graph, with different known names for exactly its slots
pub record IsFullId (g : Graph) (a : Applied) : Type 0 where
  pub full : IsFull g.image.canonical a
  pub known : AllKnown g.table (values a.1)

-- the id of the term by canonical nodes
abbrev pub id_of_term : Graph → Term → Option Applied
id_of_term g t = id_of g.image.canonical (nameless t)

abbrev pub RunsOutIn : Graph → Graph → ℕ → Type 0
RunsOutIn g h n = RunsOut n g.table h.table

-- slots ran out while a node was added, or it has too many places to be numbered
abbrev pub RunsOutForNode : Form → Table → Table → Type 0
RunsOutForNode f old new = RunsOut (length f.names) old new ⊎ (slot_limit ≤ length f.names)

-- the same of a term
abbrev pub RunsOutForTerm : Term → Table → Table → Type 0
RunsOutForTerm t old new = RunsOut (term_slots t) old new ⊎ (slot_limit ≤ term_places t)

-- a fresh slot that the old table did not know and the new one knows
pub record IsFreshBetween (old new : Table) (s : ℕ) : Type 0 where
  pub index : ℕ
  pub is_slot : s ≡ fresh_slot index
  pub unused : old.fresh ≤ index
  pub made : index < new.fresh

-- there is one class more, whose canonical node has the shape of d and new fresh slots for its names
pub record HasNewClass (old new : Table) (older newer : List DTerm) (d : DTerm) : Type 0 where
  pub node : DTerm
  pub class : newer ≡ older ++ node ∷ []
  pub same_shape : shape node ≡ shape d
  pub fresh : (s : ℕ) → Contains (canonical_slots newer (length older)) s → IsFreshBetween old new s

-- each new class is what a subterm of t is looked up as now
abbrev pub FilesOnlySubterms : Graph → Graph → Term → Type 0
FilesOnlySubterms g h t = NewClassesAre g.image.canonical h.image.canonical (IsIdOfSubterm h.image.canonical t)

-- the equation of a and b, with any names filled in for those that they lack, stood in the proof list, or it is a new entry, asserted with
-- the text
abbrev pub RecordsUnion : Graph → Graph → AppliedId → AppliedId → Option (List ℕ) → Type 0
RecordsUnion g h a b text = RecordsFilled g.image h.image (to_applied a) (to_applied b) text
