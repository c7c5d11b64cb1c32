-- What is made of least entries for an id: its look-up, its cost, which no other goes below, and what it equals.
use Rattle.std.proofs.Common.{◌≡◌, ◌∙◌, ℕ, List, [], Option, Some, ap, subst, sym}
use Rattle.std.specs.Prelude.{option_map}
use Rattle.slotted_lists.proofs.Options.{Some-same}
use Rattle.slotted_theory.specs.Derives.{Equal}
use Rattle.slotted_theory.specs.Nameless.{DTerm, nameless}
use Rattle.slotted_theory.specs.Term.{Term}
use Rattle.slotted_nodes.specs.Form.{Form}
use Rattle.slotted_model.specs.Applied.{Applied}
use Rattle.slotted_model.specs.Classes.{IsFull, term_of}
use Rattle.slotted_model.specs.Cost.{AtMost, CostFunction, tree_cost}
use Rattle.slotted_model.specs.Extraction.{Extracts, cost_in}
use Rattle.slotted_model.specs.Filling.{IsFilling}
use Rattle.slotted_model.specs.Find.{find, find_class}
use Rattle.slotted_model.specs.ProofList.{asserted}
use Rattle.slotted_model.specs.Rest.{AtRest, IsAffected, IsValidIn}
use Rattle.slotted_model.specs.State.{State, look_up_tree}
use Rattle.slotted_model.specs.Trees.{IsTree}
use Rattle.slotted_model.proofs.LeastTerms.Cheapest.{least-equal, least-represented, least-term}
use Rattle.slotted_model.proofs.LeastTerms.Extracting.{extracted-cost, extracted-look_up, extracted-tree}
use Rattle.slotted_model.proofs.Complete.LookUpsAreEqual.{found-equal}
use Rattle.slotted_model.proofs.Finds.NormalIds.{filling-found}
use Rattle.slotted_classes.specs.Finding.{IsFindable}
use Rattle.slotted_classes.specs.Kept.{Kept, entries_of}
use Rattle.slotted_hashcons.specs.FiledRows.{Rows}
use Rattle.slotted_hashcons.specs.WellFiled.{IsWellFiled, state_in}
use Rattle.slotted_graph.specs.declared.entry.TermEntry.{TermEntry}
use Rattle.slotted_graph.specs.Least.{AreLeast}
use Rattle.slotted_graph.specs.Terms.{IsMade, entry_at}
use Rattle.slotted_graph.proofs.MadeTerms.{made-extracts}

module _ {L C : Type 0} (form : L → Form) (k : Kept) (r : Rows) (well : IsWellFiled k r) (quiet : r.waiting ≡ []) (rest : AtRest (state_in k r))
    (costs : CostFunction C) (es : List (Option (TermEntry L C))) (least : AreLeast form k r costs es)
    (a : Applied) (valid : IsFindable k a) (again : find (entries_of k) a ≡ a) (t : Term) (made : IsMade form es a t) where
  abbrev g : State
  g = state_in k r

  there : Extracts g least.table a (nameless t)
  there = made-extracts form k r well quiet rest costs es least a valid again t made

  -- the class of the id is the one that it finds
  class : a.0 ≡ find_class g.found a.0
  class = ap (λ (b : Applied). b.0) (sym again)

  pub made-tree : IsTree (nameless t)
  made-tree = extracted-tree g costs least.table rest least.fits.in_order there

  pub made-looked_up : look_up_tree g (nameless t) ≡ Some a
  made-looked_up = extracted-look_up g costs least.table rest least.fits.in_order there ∙ ap Some again

  -- its cost is that of the entry
  pub made-cost : (e : TermEntry L C) → entry_at es a.0 ≡ Some e → e.cost ≡ tree_cost costs (nameless t)
  made-cost e at =
      Some-same e.cost (tree_cost costs (nameless t))
      (sym (least.same a.0 ∙ ap (option_map (λ (x : TermEntry L C). x.cost)) at)
      ∙ (ap (cost_in least.table) class ∙ extracted-cost g costs least.table rest least.fits.in_order least.lawful there))

  -- no tree that is looked up as an id of this class costs less
  pub made-least : (u : DTerm) (b : Applied) → look_up_tree g u ≡ Some b → b.0 ≡ a.0 →
      AtMost costs (tree_cost costs (nameless t)) (tree_cost costs u)
  made-least u b looked_up same =
      least-represented g rest costs least.lawful least.table least.fits a (nameless t) there u b looked_up (same ∙ class)

  -- nor does the term of a full id that finds this class
  pub made-least_term : (b : Applied) → IsFull g.nodes b → find_class g.found b.0 ≡ a.0 →
      AtMost costs (tree_cost costs (nameless t)) (tree_cost costs (term_of g.nodes b))
  made-least_term b full finds = least-term g rest costs least.lawful least.table least.fits a (nameless t) there b full (finds ∙ class)

  -- nor does any tree that is equal to such a term, where no open symmetry affects the class
  pub made-least_equal : ¬ IsAffected g a.0 → (b : Applied) → IsFull g.nodes b → find_class g.found b.0 ≡ a.0 →
      (u : DTerm) → IsTree u → Equal (asserted g.nodes g.proofs) (term_of g.nodes b) u →
      AtMost costs (tree_cost costs (nameless t)) (tree_cost costs u)
  made-least_equal untouched b full finds u tree equal =
      least-equal g rest costs least.lawful least.table least.fits a (nameless t) there b full (finds ∙ class)
      (subst (λ c. ¬ IsAffected g c) class untouched) u tree equal

  -- it equals the term of each id that finds this one, whatever names fill it
  pub made-equal : (c : Applied) → IsValidIn g c → find g.found c ≡ a → (given : List ℕ) (b : Applied) → IsFilling g.nodes given c b →
      Equal (asserted g.nodes g.proofs) (term_of g.nodes b) (nameless t)
  made-equal c valid_c finds given b fills =
      found-equal g rest b fills.full (nameless t)
      (made-looked_up ∙ ap Some (sym finds ∙ filling-found g.nodes g.found rest.sane.sound.linked given c b valid_c fills))
