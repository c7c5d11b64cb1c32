-- Which of the nodes of a class is chosen, where several cost the least.
--     entry_cost es c              what the entry of a class costs, if it has one
--     entry_costs es cs            what those of these classes cost, if each has one
--     IsOverCheaper costs es cs x  each of these classes that has an entry costs less than x
--     IsChoice ..                  a row of a class that costs no more than its entry, over children that all cost less
--     IsKeyOfRow form n r          n is the shape of the row, as a node of the language
--     IsChosen ..                  if there is a choice, the node of the entry is over cheaper children too, and comes first by the order of the language
--     AreChosen ..                 the same of each entry
use Rattle.std.specs.Prelude.{◌≡◌, ℕ, List, [], ◌∷◌, Contains, Option, Some, option_map, true}
use Rattle.std.specs.Ordering.{is_le}
use Rattle.std.specs.declared.cmp.Ordering.{Ordering}
use Rattle.slotted_theory.specs.Shape as theory
use Rattle.slotted_nodes.specs.Form.{Form}
use Rattle.slotted_languages.specs.NodeTerm.{nameless_node}
use Rattle.slotted_languages.specs.Shape.{shape}
use Rattle.slotted_model.specs.Cost.{AtMost, CostFunction}
use Rattle.slotted_model.specs.LookUp.{both}
use Rattle.slotted_model.specs.State.{Row, child_classes}
use Rattle.slotted_hashcons.specs.FiledRows.{key_children}
use Rattle.slotted_graph.specs.declared.entry.TermEntry.{TermEntry}
use Rattle.slotted_graph.specs.Terms.{entry_at}

module _ {L C : Type 0} where
  abbrev pub entry_cost : List (Option (TermEntry L C)) → ℕ → Option C
  entry_cost es c = option_map (λ (e : TermEntry L C). e.cost) (entry_at es c)

  abbrev pub entry_costs : List (Option (TermEntry L C)) → List ℕ → Option (List C)
  entry_costs es [] = Some []
  entry_costs es (c ∷ cs) = both (λ x xs. x ∷ xs) (entry_cost es c) (entry_costs es cs)

  abbrev pub IsOverCheaper : CostFunction C → List (Option (TermEntry L C)) → List ℕ → C → Type 0
  IsOverCheaper costs es cs x = (c : ℕ) → Contains cs c → (y : C) → entry_cost es c ≡ Some y → ¬ AtMost costs x y

-- the class of a row is what class_of says of its source
pub record IsChoice {L C : Type 0} (costs : CostFunction C) (class_of : ℕ → ℕ) (rows : List Row) (es : List (Option (TermEntry L C))) (c : ℕ) (x : C) (r : Row) : Type 0 where
  pub filed : Contains rows r
  pub class : class_of r.source ≡ c
  pub each : List C
  pub costs_are : entry_costs es (child_classes r.shape.args) ≡ Some each
  pub least : AtMost costs (costs.node_cost r.shape each) x
  pub cheaper : IsOverCheaper costs es (child_classes r.shape.args) (costs.node_cost r.shape each)

abbrev pub IsKeyOfRow : {L : Type 0} → (L → Form) → L → Row → Type 0
IsKeyOfRow form n r = ((shape (form n)).0 ≡ form n) × (theory.shape (nameless_node (form n)) ≡ r.shape)

pub record IsChosen {L C : Type 0} (form : L → Form) (order : L → L → Ordering) (costs : CostFunction C) (es : List (Option (TermEntry L C))) (e : TermEntry L C) (r : Row) : Type 0 where
  pub cheaper : IsOverCheaper costs es (key_children (form e.node)) e.cost
  pub first : (n : L) → IsKeyOfRow form n r → is_le (order e.node n) ≡ true

abbrev pub AreChosen : {L C : Type 0} → (L → Form) → (L → L → Ordering) → CostFunction C → (ℕ → ℕ) → List Row → List (Option (TermEntry L C)) → Type 0
AreChosen {L} {C} form order costs class_of rows es =
    (c : ℕ) (e : TermEntry L C) → entry_at es c ≡ Some e → (r : Row) → IsChoice costs class_of rows es c e.cost r → IsChosen form order costs es e r
