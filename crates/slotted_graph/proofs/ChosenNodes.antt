-- The entries of a table whose ties are broken are of chosen nodes.
use Rattle.std.proofs.Common.{◌≡◌, ◌∙◌, ℕ, List, [], ◌∷◌, Option, Some, refl, ap, sym, subst}
use Rattle.std.specs.Prelude.{All, Contains, option_map}
use Rattle.std.specs.declared.cmp.Ordering.{Ordering}
use Rattle.slotted_nodes.specs.Form.{Form}
use Rattle.slotted_languages.specs.Shape.{Fits}
use Rattle.slotted_model.specs.Cost.{CostFunction}
use Rattle.slotted_model.specs.Extraction.{HasCheaperChildren, HasTiesBroken, TableEntry, cost_in, costs_in, row_cost}
use Rattle.slotted_model.specs.Find.{find_class}
use Rattle.slotted_model.specs.LookUp.{both}
use Rattle.slotted_model.specs.State.{Row, child_classes}
use Rattle.slotted_model.proofs.LeastTerms.Ties.{first-of_ties}
use Rattle.slotted_classes.specs.Kept.{Kept, entries_of}
use Rattle.slotted_hashcons.specs.Filed.{HasKey, filed_of}
use Rattle.slotted_hashcons.specs.FiledRows.{Rows, row_of_entry, rows_in}
use Rattle.slotted_hashcons.proofs.FiledRows.{filed-row, row-children}
use Rattle.slotted_hashcons.specs.WellFiled.{IsWellFiled, state_in}
use Rattle.slotted_languages.proofs.KeysByShapes.{one-key}
use Rattle.slotted_costs.specs.Entries.{IsFiledAs, table_of}
use Rattle.slotted_costs.specs.Least.{IsLeastTable, comes_first}
use Rattle.slotted_costs.specs.declared.entry.CostEntry.{CostEntry}
use Rattle.slotted_graph.specs.declared.entry.TermEntry.{TermEntry}
use Rattle.slotted_graph.specs.Chosen.{AreChosen, IsKeyOfRow, entry_cost, entry_costs}
use Rattle.slotted_graph.specs.Least.{IsEntryOf}
use Rattle.slotted_graph.specs.Placing.{ArePlaced}
use Rattle.slotted_graph.proofs.LeastTables.{is-entry, same-cost}

module _ {L C : Type 0} (form : L → Form) (order : L → L → Ordering) (fits : (n : L) → Fits (form n)) (k : Kept) (r : Rows) (well : IsWellFiled k r) (costs : CostFunction C) (es : List (CostEntry L C))
    (least : IsLeastTable (state_in k r) costs (table_of form es)) (filed : All (IsFiledAs form r.filed) es)
    (ties : HasTiesBroken (state_in k r) costs (comes_first form order r.filed) (table_of form es)) (v : List (Option (TermEntry L C))) (placed : ArePlaced k es 0 v) where
  abbrev table : List (TableEntry C)
  table = table_of form es

  same : (c : ℕ) → cost_in table c ≡ entry_cost v c
  same c = same-cost form k r well costs es least filed v placed c

  same-costs : (cs : List ℕ) → costs_in table cs ≡ entry_costs v cs
  same-costs [] = refl
  same-costs (c ∷ cs) = λ i. both (λ x xs. x ∷ xs) (same c i) (same-costs cs i)

  -- what is filed of the source of a row has the key that the row's shape is
  row-key : (q : Row) → Contains (rows_in r.filed) q → (n : L) → IsKeyOfRow form n q → HasKey r.filed q.source (form n)
  row-key q c n key =
      let h = filed-row r.filed q c in
      let kept = well.keyed h.0 (h.1, h.2) h.3 in
      let one : form n ≡ h.1 = one-key (form n) h.1 (fits n) kept.fits key.0 kept.itself (key.1 ∙ ap (λ (z : Row). z.shape) h.4) in
      (h.2, ap (filed_of r.filed) (ap (λ (z : Row). z.source) h.4) ∙ (h.3 ∙ ap (λ f. Some (f, h.2)) (sym one)))

  pub chosen-entries : AreChosen form order costs (find_class (entries_of k)) (rows_in r.filed) v
  chosen-entries c e at q choice =
      let entry : IsEntryOf form k r table c e = is-entry form k r well costs es least filed v placed c e at in
      let row : Row = row_of_entry (form e.node, (entry.source, entry.slots)) in
      let cost : row_cost costs table q ≡ Some (costs.node_cost q.shape choice.each) = ap (option_map (costs.node_cost q.shape)) (same-costs (child_classes q.shape.args) ∙ choice.costs_are) in
      let over : HasCheaperChildren costs table q (costs.node_cost q.shape choice.each) = λ d i y h. choice.cheaper d i y (sym (same d) ∙ h) in
      let first = first-of_ties (state_in k r) costs least.lawful (comes_first form order r.filed) table least.least_first ties (record { class = c; cost = e.cost; row = row }) entry.entered
      q choice.filed choice.class (costs.node_cost q.shape choice.each) cost choice.least over in
      record {
        cheaper = λ d i y h. first.0 d (subst (λ cs. Contains cs d) (sym (row-children (form e.node, (entry.source, entry.slots)))) i) y (same d ∙ h);
        first = λ n key. first.1 e.node n (entry.slots, entry.filed) (row-key q choice.filed n key);
      }
