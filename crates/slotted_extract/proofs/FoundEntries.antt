-- What a valid id finds has an entry, in the graph of which the entries are.
use Rattle.std.proofs.Common.{◌≡◌, ◌∙◌, List, Option, Some, Result, Ok, Err, false, ap, sym, inl, inr}
use Rattle.std.specs.Prelude.{◌⊎◌, IfErr, IfOk, IsErrOf, IsTrue}
use Rattle.std.proofs.lemmas.Bool.{false≢true}
use Rattle.std.specs.declared.cmp.Ordering.{Ordering}
use Rattle.slotted_slots.specs.Error.{IsShortage}
use Rattle.slotted_slots.specs.declared.error.Error.{Error}
use Rattle.slotted_slots.specs.declared.error.Error.TheVariants.{Failed, UnknownClass}
use Rattle.slotted_nodes.specs.Form.{Form}
use Rattle.slotted_model.specs.Applied.{Applied}
use Rattle.slotted_model.specs.Cost.{CostFunction}
use Rattle.slotted_model.specs.Find.{find_class}
use Rattle.slotted_model.proofs.Finds.Finding.{found-in_range, found-live, leads}
use Rattle.slotted_model.proofs.Data.Options.{None-Some, option_map-some}
use Rattle.slotted_classes.specs.Finding.{IsFindable}
use Rattle.slotted_classes.specs.Kept.{entries_of, nodes_of}
use Rattle.slotted_graph.specs.Causes.{class_found}
use Rattle.slotted_graph.specs.Graph.{Graph}
use Rattle.slotted_graph.specs.Image.{Image}
use Rattle.slotted_graph.specs.ValidIds.{IsValidId}
use Rattle.slotted_graph.proofs.Images.{class_found-is}
use Rattle.slotted_graph.proofs.ValidIds.{findable-within, of-valid}
use Rattle.slotted_graph.specs.Terms.{entry_at}
use Rattle.slotted_graph.specs.declared.entry.TermEntry.{TermEntry}
use Rattle.slotted_graph.specs.LeastTerms.{AreChosenOf, AreLeastOf, IsExtracted, IsLeastTerm, IsMadeOf, IsOfChosen, LacksEntry}

module _ {L C : Type 0} (form : L → Form) (g : Graph) (costs : CostFunction C) (es : List (Option (TermEntry L C))) (of : AreLeastOf form g costs es) (a : Applied) (valid : IsValidId g a) where
  pub found-entry : (e : TermEntry L C) × (entry_at es (class_found g.image a.0) ≡ Some e)
  found-entry =
      let k = of.kept in
      let nodes = nodes_of k in
      let found = entries_of k in
      let linked = of.rests.filed.sane.sound.linked in
      let fa : IsFindable k a = of-valid k of.good g of.image a valid in
      let class : class_found g.image a.0 ≡ find_class found a.0 = ap (λ (i : Image). class_found i a.0) (sym of.image) ∙ class_found-is k a.0 (findable-within k a fa) in
      let lead = leads nodes found linked in
      let x = of.least.fits.covered (find_class found a.0) (found-in_range nodes found lead a.0 fa.in_range) (found-live nodes found lead a.0 fa.in_range) in
      let e = option_map-some (λ (y : TermEntry L C). y.cost) (entry_at es (find_class found a.0)) x.0 (sym (of.least.same (find_class found a.0)) ∙ x.1) in
      (e.0, ap (entry_at es) class ∙ e.1)

  pub lacks-none : ¬ LacksEntry g es a
  lacks-none none = None-Some found-entry.0 (sym none ∙ found-entry.1)

-- what is made of entries of least cost, each of which is of the chosen node, is so
module _ {L C : Type 0} (form : L → Form) (order : L → L → Ordering) (g : Graph) (costs : CostFunction C) (es : List (Option (TermEntry L C))) (of : AreLeastOf form g costs es) (chosen : AreChosenOf form order g costs es) (a : Applied) where
  pub least-chosen : (r : Result _ Error) → IfOk r (IsExtracted form g es a) → IfOk r (IsMadeOf form g es a) → IfOk r (λ t. IsLeastTerm g costs a t × IsOfChosen form order g costs a t)
  least-chosen (Ok t) e m = ((e costs of).0, record { entries = es; least = of; chosen = chosen; made = m })
  least-chosen (Err x) e m = tt

-- what is never refused with `UnknownClass`
pub without-unknown : {A : Type 0} (Q : Error → Type 0) (r : Result A Error) → ((e : Error) → IsShortage e → Q e) → IfErr r (λ e. (e ≡ Failed) ⊎ ((e ≡ UnknownClass) ⊎ IsShortage e)) → ¬ IsErrOf r UnknownClass →
    IfErr r (λ e. (e ≡ Failed) ⊎ Q e)
without-unknown Q (Ok x) to h n = tt
without-unknown Q (Err e) to h n = elim h [
  | inl f ↦ inl f
  | inr o ↦ elim o [
    | inl u ↦ absurd (n (ap Err u))
    | inr s ↦ inr (to e s)
  ]
]

-- a graph that has not failed has a valid id where one was asked for
pub valid-unless : (g : Graph) (a : Applied) → IsTrue g.failed ⊎ IsValidId g a → g.failed ≡ false → IsValidId g a
valid-unless g a (inl h) sound = absurd (false≢true (sym sound ∙ h))
valid-unless g a (inr v) sound = v
