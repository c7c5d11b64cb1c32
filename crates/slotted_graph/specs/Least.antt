-- Entries of least cost, for a graph that is kept and filed.
--     IsEntryOf form k r table c e   e is of the class c: what is filed of a class that finds c, with the slots of c, at the cost of the table's entry
--     AreLeast form k r costs es     the entries are those of a table that fits
use Rattle.std.specs.Prelude.{◌≡◌, ℕ, List, Option, Some, Contains, option_map}
use Rattle.slotted_nodes.specs.Form.{Form}
use Rattle.slotted_model.specs.Cost.{CostFunction}
use Rattle.slotted_model.specs.Correspondence.{same_names}
use Rattle.slotted_model.specs.Extraction.{Fits, IsLawfulFor, TableEntry, cost_in}
use Rattle.slotted_model.specs.Find.{find_class, find_map}
use Rattle.slotted_classes.specs.Kept.{Kept, entries_of}
use Rattle.slotted_hashcons.specs.Filed.{filed_of}
use Rattle.slotted_hashcons.specs.FiledRows.{Rows, row_of_entry}
use Rattle.slotted_hashcons.specs.WellFiled.{state_in}
use Rattle.slotted_graph.specs.declared.entry.TermEntry.{TermEntry}
use Rattle.slotted_graph.specs.Terms.{entry_at}

pub record IsEntryOf {L C : Type 0} (form : L → Form) (k : Kept) (r : Rows) (table : List (TableEntry C)) (c : ℕ) (e : TermEntry L C) : Type 0 where
  pub source : ℕ
  pub slots : List (ℕ × ℕ)
  pub filed : filed_of r.filed source ≡ Some (form e.node, slots)
  pub finds : find_class (entries_of k) source ≡ c
  pub names : e.names ≡ same_names slots (find_map (entries_of k) source)
  pub entered : Contains table (record { class = c; cost = e.cost; row = row_of_entry (form e.node, (source, slots)) })

pub record AreLeast {L C : Type 0} (form : L → Form) (k : Kept) (r : Rows) (costs : CostFunction C) (es : List (Option (TermEntry L C))) : Type 0 where
  pub table : List (TableEntry C)
  pub lawful : IsLawfulFor C (state_in k r) costs
  pub fits : Fits C (state_in k r) costs table
  pub each : (c : ℕ) (e : TermEntry L C) → entry_at es c ≡ Some e → IsEntryOf form k r table c e
  pub same : (c : ℕ) → cost_in table c ≡ option_map (λ (e : TermEntry L C). e.cost) (entry_at es c)
