-- The entries of a table as the code keeps them, in the words of the model.
--     entry_of form e     an entry
--     table_of form es    the table with these entries, of which the first one entered first
--     entry_in table c    the entry of a class
--     IsFiledAs form v e  the entry has what is filed of its source
--     ArePlaced cs ps     ps has for each class of cs its place there
use Rattle.std.specs.Prelude.{◌≡◌, ℕ, List, [], ◌∷◌, map, Option, Some, None, cond, nat_eq, slice_get}
use Rattle.slotted_nodes.specs.Form.{Form}
use Rattle.slotted_model.specs.Extraction.{TableEntry}
use Rattle.slotted_hashcons.specs.Filed.{Filing, filed_of}
use Rattle.slotted_hashcons.specs.FiledRows.{row_of_entry}
use Rattle.slotted_costs.specs.declared.entry.CostEntry.{CostEntry}

abbrev pub entry_of : {L C : Type 0} → (L → Form) → CostEntry L C → TableEntry C
entry_of form e = record { class = e.class; cost = e.cost; row = row_of_entry (form e.node, (e.source, e.names)) }

-- the table after these entries: the model's newest entry stands first
abbrev pub table_after : {L C : Type 0} → (L → Form) → List (CostEntry L C) → List (TableEntry C) → List (TableEntry C)
table_after form [] table = table
table_after form (e ∷ es) table = table_after form es (entry_of form e ∷ table)

abbrev pub table_of : {L C : Type 0} → (L → Form) → List (CostEntry L C) → List (TableEntry C)
table_of form es = table_after form es []

abbrev pub entry_in : {C : Type 0} → List (TableEntry C) → ℕ → Option (TableEntry C)
entry_in [] c = None
entry_in (e ∷ table) c = cond (nat_eq e.class c) (Some e) (entry_in table c)

abbrev pub IsFiledAs : {L C : Type 0} → (L → Form) → List (Option Filing) → CostEntry L C → Type 0
IsFiledAs form v e = filed_of v e.source ≡ Some (form e.node, e.names)

abbrev pub classes_in : {L C : Type 0} → List (CostEntry L C) → List ℕ
classes_in es = map (λ e. e.class) es

abbrev pub ArePlaced : List ℕ → List ℕ → Type 0
ArePlaced classes places = (c p : ℕ) → slice_get classes p ≡ Some c → slice_get places c ≡ Some p
