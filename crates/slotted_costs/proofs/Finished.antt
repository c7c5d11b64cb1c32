-- A made table is lawful, since its rows are nodes of the language.
use Rattle.std.proofs.Common.{List, sym, ap, subst, ◌∙◌}
use Rattle.std.specs.Prelude.{Contains}
use Rattle.std.specs.Cmp.{IsTotalOrder}
use Rattle.std.specs.declared.cmp.Ordering.{Ordering}
use Rattle.slotted_theory.specs.Nameless.{DTerm}
use Rattle.slotted_theory.specs.Shape.{shape}
use Rattle.slotted_nodes.specs.Form.{Form}
use Rattle.slotted_languages.specs.NodeTerm.{nameless_node}
use Rattle.slotted_model.specs.State.{Row}
use Rattle.slotted_model.specs.Extraction.{IsLawfulFor}
use Rattle.slotted_model.proofs.LeastTerms.KnownCosts.{lawful-for}
use Rattle.slotted_classes.specs.Kept.{Kept}
use Rattle.slotted_hashcons.specs.FiledRows.{Rows, rows_in}
use Rattle.slotted_hashcons.proofs.FiledRows.{filed-row}
use Rattle.slotted_costs.specs.Costs.{costs_by}
use Rattle.slotted_costs.specs.Laws.{IsOfLanguage, NeverFalls, CoversChildren, CostLaws}
use Rattle.slotted_costs.proofs.Lawful.{cost-laws}
use Rattle.slotted_costs.specs.Counts.{AreKeysOf}
use Rattle.slotted_costs.specs.Making.{table_state}

module _ {L C : Type 0} (form : L → Form) (cmp : C → C → Ordering) (order : IsTotalOrder cmp) (weight : DTerm → List C → C)
    (rises : NeverFalls form (costs_by cmp weight)) (covers : CoversChildren form (costs_by cmp weight)) (store : Kept) (nodes : Rows) (keys : AreKeysOf form nodes.filed) where
  laws : CostLaws form (costs_by cmp weight)
  laws = cost-laws form cmp order weight rises covers

  row-known : (r : Row) → Contains (rows_in nodes.filed) r → IsOfLanguage form r.shape
  row-known r c =
      let h = filed-row nodes.filed r c in
      let k = keys h.0 (h.1, h.2) h.3 in
      subst (λ d. IsOfLanguage form d) (ap (λ f. shape (nameless_node f)) k.1 ∙ sym (ap (λ (q : Row). q.shape) h.4)) (laws.filed k.0)

  pub filed-lawful : IsLawfulFor C (table_state store nodes) (costs_by cmp weight)
  filed-lawful = lawful-for (IsOfLanguage form) (table_state store nodes) (costs_by cmp weight) laws.lawful laws.alike row-known
