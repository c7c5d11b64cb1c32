-- The making of a table, row by row.
--     table_state k r     the graph of what is kept and filed
--     IsMaking ..         what holds between the steps: of the table, the queue, and the counts
--     IsTurn ..           the same where a candidate was taken out of the queue, before which none comes
--     Tells .. n i q r    from q to r the row i waits too, if n of its children lack a cost, and n is 0
--     Told .. us l m q r  the same of all these rows, each count lowered
--     TellsRow, TellsRows  the same of what the code has
use Rattle.std.specs.Prelude.{◌≡◌, ◌⊎◌, ℕ, zero, suc, ◌+◌, ◌-◌, ◌≤◌, List, ◌∷◌, All, false, length, Option, Some, None, Contains, set, slice_index_or}
use Rattle.std.specs.Ordering.{is_lt}
use Rattle.std.specs.BinaryHeap.{heap_items, IsHeap, KeepsHeap}
use Rattle.std.specs.declared.cmp.Ordering.{Ordering}
use Rattle.slotted_theory.specs.Nameless.{DTerm}
use Rattle.slotted_nodes.specs.Form.{Form}
use Rattle.slotted_model.specs.Cost.{CostFunction}
use Rattle.slotted_model.specs.Find.{find_class}
use Rattle.slotted_model.specs.State.{State}
use Rattle.slotted_model.specs.Extraction.{TableEntry, cost_in, HasTiesBroken, IsFinished, IsLeastFirst}
use Rattle.slotted_classes.specs.Kept.{Kept}
use Rattle.slotted_hashcons.specs.Filed.{Filing, filed_of}
use Rattle.slotted_hashcons.specs.FiledRows.{Rows, rows_in}
use Rattle.slotted_classes.specs.StateOf.{state_with}
use Rattle.slotted_costs.specs.Costs.{costs_by}
use Rattle.slotted_costs.specs.Entries.{IsFiledAs, table_of}
use Rattle.slotted_costs.specs.Prices.{IsCandidateFor, Pushes, candidate_cmp, children_of, filed_cost, pairs_of}
use Rattle.slotted_costs.specs.Counts.{times, missing, unpriced}
use Rattle.slotted_costs.specs.Least.{comes_first}
use Rattle.slotted_costs.specs.declared.candidate.Candidate.{Candidate}
use Rattle.slotted_costs.specs.declared.entry.CostEntry.{CostEntry}
use Rattle.slotted_costs.specs.declared.making.Making.{Making}

abbrev pub table_state : Kept → Rows → State
table_state k r = state_with k (rows_in r.filed) r.waiting

-- the rows with a cost whose class has none wait, at the cost that they have by the table, and each row is counted
pub record IsMaking {L C : Type 0} (form : L → Form) (order : L → L → Ordering) (g : State) (v : List (Option Filing)) (k : CostFunction C) (table : List (TableEntry C)) (queue : List (Candidate L C)) (lacking : List ℕ) : Type 0 where
  pub least_first : IsLeastFirst g k table
  pub ties : HasTiesBroken g k (comes_first form order v) table
  pub each : (c : Candidate L C) → Contains queue c → IsCandidateFor form k table v c.source.0 c
  pub has : (i : ℕ) (x : C) → filed_cost k table v i ≡ Some x → cost_in table (find_class g.found i) ≡ None → Contains (pairs_of queue) (i, x)
  pub counts : (i : ℕ) → slice_index_or lacking i 0 ≡ missing table (children_of v i)
  pub lists : length lacking ≡ length v

-- none in the queue comes before this one
pub record IsTurn {L C : Type 0} (form : L → Form) (order : L → L → Ordering) (g : State) (v : List (Option Filing)) (cmp : C → C → Ordering) (weight : DTerm → List C → C) (table : List (TableEntry C)) (next : Candidate L C) (queue : List (Candidate L C)) (lacking : List ℕ) : Type 0 where
  pub making : IsMaking form order g v (costs_by cmp weight) table (next ∷ queue) lacking
  pub first : (c : Candidate L C) → Contains (next ∷ queue) c → is_lt (candidate_cmp order cmp next c) ≡ false

-- the same of what the code has
pub record IsMadeSoFar {L C : Type 0} (form : L → Form) (order : L → L → Ordering) (cmp : C → C → Ordering) (weight : DTerm → List C → C) (store : Kept) (nodes : Rows) (m : Making L C) : Type 0 where
  pub making : IsMaking form order (table_state store nodes) nodes.filed (costs_by cmp weight) (table_of form m.table.entries.items) (heap_items m.queue) m.lacking.items
  pub heap : IsHeap (candidate_cmp order cmp) (heap_items m.queue)
  pub room : length m.table.places.items ≡ length nodes.filed
  pub filed : All (IsFiledAs form nodes.filed) m.table.entries.items

pub record IsTurnOf {L C : Type 0} (form : L → Form) (order : L → L → Ordering) (cmp : C → C → Ordering) (weight : DTerm → List C → C) (store : Kept) (nodes : Rows) (m : Making L C) (next : Candidate L C) : Type 0 where
  pub turn : IsTurn form order (table_state store nodes) nodes.filed cmp weight (table_of form m.table.entries.items) next (heap_items m.queue) m.lacking.items
  pub heap : IsHeap (candidate_cmp order cmp) (heap_items m.queue)
  pub room : length m.table.places.items ≡ length nodes.filed
  pub filed : All (IsFiledAs form nodes.filed) m.table.entries.items

-- how much is left: the rows that wait, and those that may come
abbrev pub work_left : {L C : Type 0} → Making L C → ℕ
work_left m = length (heap_items m.queue) + unpriced m.lacking.items

abbrev pub Tells : {L C : Type 0} → (L → Form) → CostFunction C → List (TableEntry C) → List (Option Filing) → ℕ → ℕ → List (Candidate L C) → List (Candidate L C) → Type 0
Tells form k table v zero i q r = Pushes form k table v i q r
Tells form k table v (suc n) i q r = r ≡ q

pub record Told {L C : Type 0} (form : L → Form) (k : CostFunction C) (table : List (TableEntry C)) (v : List (Option Filing)) (us : List ℕ) (l m : List ℕ) (q r : List (Candidate L C)) : Type 0 where
  pub lists : length m ≡ length l
  pub counts : (s : ℕ) → slice_index_or m s 0 + times s us ≡ slice_index_or l s 0
  pub from : (c : Candidate L C) → Contains r c → Contains q c ⊎ IsCandidateFor form k table v c.source.0 c
  pub kept : (s : ℕ) (x : C) → Contains (pairs_of q) (s, x) → Contains (pairs_of r) (s, x)
  pub pushed : (s : ℕ) (x : C) → Contains us s → slice_index_or m s 0 ≡ 0 → filed_cost k table v s ≡ Some x → Contains (pairs_of r) (s, x)
  pub work : length r + unpriced m ≤ length q + unpriced l

-- from m to n a row lacks one cost less, and waits if it lacks none
pub record TellsRow {L C : Type 0} (form : L → Form) (order : L → L → Ordering) (cmp : C → C → Ordering) (weight : DTerm → List C → C) (v : List (Option Filing)) (source : ℕ) (m n : Making L C) : Type 0 where
  pub table : n.table ≡ m.table
  pub lacking : n.lacking.items ≡ set m.lacking.items source (slice_index_or m.lacking.items source 0 - 1)
  pub queue : Tells form (costs_by cmp weight) (table_of form m.table.entries.items) v (slice_index_or m.lacking.items source 0 - 1) source (heap_items m.queue) (heap_items n.queue)
  pub heap : KeepsHeap (candidate_cmp order cmp) (heap_items m.queue) (heap_items n.queue)

-- the same of each of these rows
pub record TellsRows {L C : Type 0} (form : L → Form) (order : L → L → Ordering) (cmp : C → C → Ordering) (weight : DTerm → List C → C) (v : List (Option Filing)) (sources : List ℕ) (m n : Making L C) : Type 0 where
  pub table : n.table ≡ m.table
  pub told : Told form (costs_by cmp weight) (table_of form m.table.entries.items) v sources m.lacking.items n.lacking.items (heap_items m.queue) (heap_items n.queue)
  pub heap : KeepsHeap (candidate_cmp order cmp) (heap_items m.queue) (heap_items n.queue)

-- no row can enter
abbrev pub IsDone : {L C : Type 0} → (L → Form) → (C → C → Ordering) → (DTerm → List C → C) → Kept → Rows → Making L C → Type 0
IsDone form cmp weight store nodes m = IsFinished (table_state store nodes) (costs_by cmp weight) (table_of form m.table.entries.items)

-- the entry is what is filed of the candidate's source, for this class at the candidate's cost
pub record IsEntryFor {L C : Type 0} (form : L → Form) (v : List (Option Filing)) (class : ℕ) (next : Candidate L C) (e : CostEntry L C) : Type 0 where
  pub class_is : e.class ≡ class
  pub cost : e.cost ≡ next.cost.0
  pub source : e.source ≡ next.source.0
  pub filed : filed_of v next.source.0 ≡ Some (form e.node, e.names)
