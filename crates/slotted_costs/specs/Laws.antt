-- The laws that a cost function keeps on the nodes of its language, and what they give.
--     IsOfLanguage form d     d differs from a node of the language in names and children alone
--     NeverFalls form k       dearer children never make a node cheaper
--     CoversChildren form k   a node costs no less than any child
--     CostLaws form k         the costs are lawful there, in a total order
use Rattle.std.specs.Prelude.{List, Contains}
use Rattle.slotted_theory.specs.Nameless.{DTerm}
use Rattle.slotted_theory.specs.Shape.{shape}
use Rattle.slotted_nodes.specs.Form.{Form}
use Rattle.slotted_languages.specs.NodeTerm.{nameless_node}
use Rattle.slotted_model.specs.Cost.{CostFunction, AtMost, EachAtMost, AreAlike, IsLawfulOn, IsTotal}
use Rattle.slotted_costs.specs.Costs.{HasValuesFor}

abbrev pub IsOfLanguage : {L : Type 0} → (L → Form) → DTerm → Type 0
IsOfLanguage {L} form d = (n : L) × AreAlike d (nameless_node (form n))

abbrev pub NeverFalls : {L C : Type 0} → (L → Form) → CostFunction C → Type 0
NeverFalls {L} {C} form k =
    (n : L) (xs ys : List C) → HasValuesFor (form n) xs → EachAtMost k xs ys →
    AtMost k (k.node_cost (nameless_node (form n)) xs) (k.node_cost (nameless_node (form n)) ys)

abbrev pub CoversChildren : {L C : Type 0} → (L → Form) → CostFunction C → Type 0
CoversChildren {L} {C} form k =
    (n : L) (xs : List C) → HasValuesFor (form n) xs → (x : C) → Contains xs x → AtMost k x (k.node_cost (nameless_node (form n)) xs)

pub record CostLaws {L C : Type 0} (form : L → Form) (k : CostFunction C) : Type 0 where
  pub lawful : IsLawfulOn (IsOfLanguage form) C k
  pub total : IsTotal k
  -- what is alike to a node of the language differs from one in names and children alone, and so does what a graph files of one
  pub alike : (d e : DTerm) → AreAlike d e → IsOfLanguage form e → IsOfLanguage form d
  pub filed : (n : L) → IsOfLanguage form (shape (nameless_node (form n)))
