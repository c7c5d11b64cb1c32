-- Graphs that agree give the same costs to ids that correspond.
use Rattle.std.proofs.Common.{◌≡◌, List, Some, sym, ◌∙◌, subst}
use Rattle.slotted_lists.proofs.Options.{Some-same}
use Rattle.slotted_theory.specs.Nameless.{DTerm}
use Rattle.slotted_model.specs.Applied.{Applied}
use Rattle.slotted_model.specs.Agreement.{Correspond, Agree}
use Rattle.slotted_model.specs.Classes.{IsFull}
use Rattle.slotted_model.specs.Find.{find_class, find}
use Rattle.slotted_model.specs.State.{State, look_up_tree}
use Rattle.slotted_model.specs.Rest.{IsValidIn, AtRest}
use Rattle.slotted_model.specs.Trees.{IsTree}
use Rattle.slotted_model.specs.Cost.{CostFunction, AtMost, tree_cost}
use Rattle.slotted_model.specs.Extraction.{IsLawfulFor, TableEntry, cost_in, Fits, Extracts}
use Rattle.slotted_model.proofs.Finds.NormalIds.{full-is_valid}
use Rattle.slotted_model.proofs.LeastTerms.Optimal.{CostOfFound, tree-at_most}
use Rattle.slotted_model.proofs.LeastTerms.Extracting.{extracts, extracted-tree, extracted-look_up, extracted-cost}

-- a class costs no more than one of another graph whose extracted tree is looked up as it
cost-at_most : {C : Type 0} (g h : State) → AtRest g → AtRest h → (k : CostFunction C) → IsLawfulFor C g k → IsLawfulFor C h k → (table other : List (TableEntry C)) → Fits C g k table → Fits C h k other →
    (a b : Applied) → IsFull g.nodes a → ((t : DTerm) → IsTree t → look_up_tree g t ≡ Some (find g.found a) → look_up_tree h t ≡ Some (find h.found b)) →
    (x y : C) → cost_in table (find_class g.found a.0) ≡ Some x → cost_in other (find_class h.found b.0) ≡ Some y → AtMost k y x
cost-at_most {C} g h rest_g rest_h k law_g law_h table other fits_g fits_h a b full there x y p q =
    let v : IsValidIn g a = full-is_valid g.nodes g.found rest_g.sane.sound.linked a full in
    let t : (t : DTerm) × Extracts g table a t = extracts g k table rest_g fits_g.in_order a v x p in
    let cost : tree_cost k t.0 ≡ x = Some-same (tree_cost k t.0) x (sym (extracted-cost g k table rest_g fits_g.in_order law_g t.1) ∙ p) in
    let look : look_up_tree h t.0 ≡ Some (find h.found b) = there t.0 (extracted-tree g k table rest_g fits_g.in_order t.1) (extracted-look_up g k table rest_g fits_g.in_order t.1) in
    let m : CostOfFound C h k other t.0 (find_class h.found b.0) = tree-at_most h k other rest_h law_h fits_h t.0 (find h.found b) look in
    let one : m.cost ≡ y = Some-same m.cost y (sym m.there ∙ q) in
    subst (λ z. AtMost k z x) one (subst (AtMost k m.cost) cost m.at_most)

pub costs-agree : {C : Type 0} (g h : State) → AtRest g → AtRest h → Agree g h → (k : CostFunction C) → IsLawfulFor C g k → IsLawfulFor C h k →
    (table other : List (TableEntry C)) → Fits C g k table → Fits C h k other → (a b : Applied) → Correspond g h a b →
    (x y : C) → cost_in table (find_class g.found a.0) ≡ Some x → cost_in other (find_class h.found b.0) ≡ Some y → AtMost k x y × AtMost k y x
costs-agree g h rest_g rest_h agree k law_g law_h table other fits_g fits_h a b c x y p q = (
  cost-at_most h g rest_h rest_g k law_h law_g other table fits_h fits_g b a c.right_full (λ t tree. (agree.looked_up a b c t tree).1) y x q p,
  cost-at_most g h rest_g rest_h k law_g law_h table other fits_g fits_h a b c.left_full (λ t tree. (agree.looked_up a b c t tree).0) x y p q,
)
