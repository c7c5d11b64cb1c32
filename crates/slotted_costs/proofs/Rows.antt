-- What is filed of a class costs what its row does.
use Rattle.std.proofs.Common.{◌≡◌, ℕ, List, Option, Some, None, sym, ◌∙◌, ap, refl}
use Rattle.std.specs.Prelude.{option_map}
use Rattle.std.specs.declared.cmp.Ordering.{Ordering}
use Rattle.slotted_theory.specs.Nameless.{DTerm}
use Rattle.slotted_nodes.specs.Form.{Form}
use Rattle.slotted_languages.specs.NodeTerm.{nameless_node}
use Rattle.slotted_model.specs.Cost.{CostFunction}
use Rattle.slotted_model.specs.Extraction.{TableEntry, costs_in, row_cost}
use Rattle.slotted_model.proofs.Data.Options.{option_map-some, None-Some}
use Rattle.slotted_hashcons.specs.Filed.{Filing, filed_of}
use Rattle.slotted_hashcons.specs.FiledRows.{row_of_entry, key_children}
use Rattle.slotted_hashcons.proofs.FiledRows.{row-children}
use Rattle.slotted_costs.specs.Costs.{costs_by}
use Rattle.slotted_outlines.proofs.BareNodes.{bare-shape}
use Rattle.slotted_costs.specs.Prices.{children_of, filing_children, filing_cost, filed_cost}

-- a filed node that has a cost, with the costs of its children
pub record HasFiledCost {C : Type 0} (k : CostFunction C) (table : List (TableEntry C)) (v : List (Option Filing)) (i : ℕ) (x : C) : Type 0 where
  pub filing : Filing
  pub filed : filed_of v i ≡ Some filing
  pub costs : List C
  pub there : costs_in table (children_of v i) ≡ Some costs
  pub cost : k.node_cost (nameless_node filing.0) costs ≡ x

module _ {C : Type 0} (k : CostFunction C) (table : List (TableEntry C)) (v : List (Option Filing)) (i : ℕ) where
  has-cost_of : (x : C) (o : Option Filing) → filed_of v i ≡ o → filing_cost k table o ≡ Some x → HasFiledCost k table v i x
  has-cost_of x None e h = absurd (None-Some x h)
  has-cost_of x (Some f) e h =
      let p = option_map-some (k.node_cost (nameless_node f.0)) (costs_in table (key_children f.0)) x h in
      record { filing = f; filed = e; costs = p.0; there = ap (λ w. costs_in table (filing_children w)) e ∙ p.1; cost = p.2 }

  pub has-cost : (x : C) → filed_cost k table v i ≡ Some x → HasFiledCost k table v i x
  has-cost x h = has-cost_of x (filed_of v i) refl h

  pub cost-by : (f : Filing) (xs : List C) → filed_of v i ≡ Some f → costs_in table (key_children f.0) ≡ Some xs → filed_cost k table v i ≡ Some (k.node_cost (nameless_node f.0) xs)
  cost-by f xs e h = ap (filing_cost k table) e ∙ ap (option_map (k.node_cost (nameless_node f.0))) h

  pub cost-at : (f : Filing) → filed_of v i ≡ Some f → filed_cost k table v i ≡ option_map (k.node_cost (nameless_node f.0)) (costs_in table (key_children f.0))
  cost-at f e = ap (filing_cost k table) e

module _ {C : Type 0} (cmp : C → C → Ordering) (weight : DTerm → List C → C) (table : List (TableEntry C)) (v : List (Option Filing)) where
  -- the row of what is filed costs the same
  pub row-cost : (i : ℕ) (f : Form) (m : List (ℕ × ℕ)) → filed_of v i ≡ Some (f, m) → row_cost (costs_by cmp weight) table (row_of_entry (f, (i, m))) ≡ filed_cost (costs_by cmp weight) table v i
  row-cost i f m e =
      (λ j. option_map (λ xs. weight (bare-shape (nameless_node f) j) xs) (costs_in table (row-children (f, (i, m)) j)))
      ∙ sym (cost-at (costs_by cmp weight) table v i (f, m) e)
