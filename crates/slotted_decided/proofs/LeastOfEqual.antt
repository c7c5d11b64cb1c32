-- In a decided graph no equal term costs less than one of least cost.
use Rattle.std.proofs.Common.{◌≡◌, ◌∙◌, List, ap, subst, sym}
use Rattle.std.specs.Prelude.{Some}
use Rattle.slotted_theory.specs.Derives.{Equal}
use Rattle.slotted_theory.specs.Nameless.{DTerm, nameless}
use Rattle.slotted_theory.specs.Term.{Term}
use Rattle.slotted_theory.proofs.Values.{node}
use Rattle.slotted_model.specs.Applied.{Applied}
use Rattle.slotted_model.specs.Classes.{IsFull, term_of}
use Rattle.slotted_model.specs.Cost.{AtMost, CostFunction}
use Rattle.slotted_model.specs.Find.{find, find_class}
use Rattle.slotted_model.specs.LookUp.{look_up_args}
use Rattle.slotted_model.specs.Rest.{AtRest, IsAnswer}
use Rattle.slotted_model.specs.State.{State, look_up_node, look_up_tree}
use Rattle.slotted_model.proofs.Data.Options.{and_then-some}
use Rattle.slotted_model.proofs.Finds.NormalIds.{found-again, full-is_valid}
use Rattle.slotted_model.proofs.Rebuilding.Answers.{answer-found}
use Rattle.slotted_model.proofs.Rebuilding.UpTo.{upto-class}
use Rattle.slotted_model_symmetries.specs.Deciding.{IsDecided}
use Rattle.slotted_model_symmetries.proofs.Rows.{decided_respects}
use Rattle.slotted_model_symmetries.proofs.Trees.{equal_trees_are_looked_up}
use Rattle.slotted_classes.specs.Kept.{Kept, nodes_of}
use Rattle.slotted_classes.proofs.KeptLists.{full-within}
use Rattle.slotted_costs.specs.Costs.{cost_of_term}
use Rattle.slotted_hashcons.specs.FiledRows.{Rows, rows_in}
use Rattle.slotted_hashcons.specs.WellFiled.{state_in}
use Rattle.slotted_operations.specs.Causes.{class_found}
use Rattle.slotted_operations.specs.Good.{Good, RestsWith, image_of}
use Rattle.slotted_operations.specs.Graph.{Graph}
use Rattle.slotted_operations.specs.Image.{Image, asserted_in}
use Rattle.slotted_operations.proofs.Graphs.AtRest.{at-rest}
use Rattle.slotted_operations.proofs.Graphs.Images.{class_found-is}
use Rattle.slotted_operations.proofs.LookUps.States.{tree-is}
use Rattle.slotted_graph.specs.LeastTerms.{IsLeastTerm}
use Rattle.slotted_deciding.specs.Equality.{IsDecidedGraph}
use Rattle.slotted_decided.specs.Extracted.{CostsLeastOfEqual}

module _ (k : Kept) (r : Rows) (good : Good k) (rests : RestsWith k r) where
  state : State
  state = state_in k r

  rest : AtRest (state_in k r)
  rest = at-rest k r good rests

  -- a tree is looked up as an id of a class that finds itself
  answer-own : (t : DTerm) (x : Applied) → look_up_tree (state_in k r) t ≡ Some x → find_class (state_in k r).found x.0 ≡ x.0
  answer-own t x is =
      let q = and_then-some (λ found. look_up_node (state_in k r) (node t.op t.payloads found)) (look_up_args (look_up_node (state_in k r)) t.args) x is in
      let w : IsAnswer (state_in k r) (node t.op t.payloads q.0) x = answer-found (state_in k r) rest (node t.op t.payloads q.0) x q.2 in
      let linked = rest.sane.sound.linked in
      let v = full-is_valid (state_in k r).nodes (state_in k r).found linked w.id w.full in
      let again : find (state_in k r).found x ≡ x = ap (find (state_in k r).found) (sym w.found) ∙ (found-again (state_in k r).nodes (state_in k r).found linked w.id v ∙ w.found) in
      ap (λ (y : Applied). y.0) again

  -- in a decided graph an equal tree is looked up as an id of the class found
  equal-looked_up : IsDecided (state_in k r) → (b : Applied) → IsFull (nodes_of k) b → (u : DTerm) → Equal (asserted_in (image_of k)) (term_of (nodes_of k) b) u →
      (x : Applied) × (look_up_tree (state_in k r) u ≡ Some x) × (x.0 ≡ class_found (image_of k) b.0)
  equal-looked_up decided b full u equal =
      let e = equal_trees_are_looked_up (state_in k r) rest (decided_respects (state_in k r) rest decided) b full u equal in
      (e.0, e.1, sym (answer-own u e.0 e.1) ∙ (upto-class (state_in k r) e.2 ∙ sym (class_found-is k b.0 (full-within k b full))))

pub least-of_equal : {C : Type 0} (g : Graph) (costs : CostFunction C) (a : Applied) (t : Term) → IsLeastTerm g costs a t → IsDecidedGraph g → CostsLeastOfEqual g costs a t
least-of_equal g costs a t least (s, is, decided) b beside u equal =
    let here = subst IsDecided is.state decided in
    let full : IsFull (nodes_of is.kept) b = subst (λ (x : Image). IsFull x.canonical b) (sym is.image) beside.0 in
    let same : Equal (asserted_in (image_of is.kept)) (term_of (nodes_of is.kept) b) (nameless u) =
    subst (λ (x : Image). Equal (asserted_in x) (term_of x.canonical b) (nameless u)) (sym is.image) equal in
    let e = equal-looked_up is.kept is.rows is.good is.rests here b full (nameless u) same in
    let class = subst (λ (x : Image). e.0.0 ≡ class_found x b.0) is.image e.2 in
    least.least u e.0 (tree-is is.kept is.rows is.good is.rests g is.image is.filed (nameless u) ∙ e.1) (class ∙ beside.1)
