-- What is made of entries of least cost, as callers of the graph see it.
use Rattle.std.proofs.Common.{◌≡◌, ◌<◌, ◌∙◌, ℕ, List, [], Option, Some, length, ap, refl, sym, subst, arith}
use Rattle.std.specs.declared.cmp.Ordering.{Ordering}
use Rattle.slotted_theory.specs.Nameless.{nameless}
use Rattle.slotted_theory.specs.Term.{Term}
use Rattle.slotted_nodes.specs.Form.{Form}
use Rattle.slotted_model.specs.Applied.{Applied}
use Rattle.slotted_model.specs.Classes.{IsFull}
use Rattle.slotted_model.specs.Cost.{CostFunction}
use Rattle.slotted_model.specs.Find.{IsLive, find, find_class}
use Rattle.slotted_model.specs.Rest.{AtRest}
use Rattle.slotted_model.specs.State.{Row, State, look_up_tree}
use Rattle.slotted_model.proofs.Finds.NormalIds.{found-again, found-valid}
use Rattle.slotted_model.proofs.Finds.Finding.{found-live, leads}
use Rattle.slotted_model.proofs.Data.Options.{option_map-some}
use Rattle.slotted_classes.specs.Finding.{IsFindable}
use Rattle.slotted_classes.specs.Kept.{Kept, entries_of, nodes_of}
use Rattle.slotted_classes.proofs.KeptLists.{length-nodes_of}
use Rattle.slotted_hashcons.specs.FiledRows.{Rows, rows_in}
use Rattle.slotted_hashcons.specs.WellFiled.{state_in}
use Rattle.slotted_operations.specs.Affected.{IsAffected}
use Rattle.slotted_operations.specs.Causes.{class_found}
use Rattle.slotted_operations.specs.Good.{Good, RestsWith, image_of}
use Rattle.slotted_operations.specs.Graph.{Graph}
use Rattle.slotted_operations.specs.Image.{Image, found_id}
use Rattle.slotted_operations.specs.LookUp.{look_up_term}
use Rattle.slotted_operations.specs.ValidIds.{IsValidId}
use Rattle.slotted_operations.proofs.Unions.AffectedClasses.{affected-is}
use Rattle.slotted_operations.proofs.Graphs.Images.{class_found-is, found_id-is}
use Rattle.slotted_operations.proofs.LookUps.States.{tree-is}
use Rattle.slotted_operations.proofs.Graphs.AtRest.{at-rest}
use Rattle.slotted_operations.proofs.Ids.ValidIds.{fills-filling, findable-within, of-valid}
use Rattle.slotted_graph.specs.Chosen.{AreChosen, IsChoice}
use Rattle.slotted_graph.specs.Least.{AreLeast}
use Rattle.slotted_graph.specs.Terms.{IsMade, entry_at}
use Rattle.slotted_graph.specs.declared.entry.TermEntry.{TermEntry}
use Rattle.slotted_graph.proofs.ExtractedTerms.{made-cost, made-equal, made-least, made-least_equal, made-least_term, made-looked_up}
use Rattle.slotted_graph.specs.LeastTerms.{AreChosenOf, CostsAsEntered, HasEachLiveClass, IsEqualTo, IsExtracted, IsFullBeside, IsLeastTerm}

module _ {L C : Type 0} (form : L → Form) (k : Kept) (r : Rows) (good : Good k) (rests : RestsWith k r) (costs : CostFunction C) (es : List (Option (TermEntry L C)))
    (least : AreLeast form k r costs es) (w : Graph) where
  abbrev g : State
  g = state_in k r

  -- the graph that callers see
  abbrev seen : Graph
  seen = record w { image = image_of k; filed = rows_in r.filed }

  rest : AtRest g
  rest = at-rest k r good rests

  module _ (a : Applied) (valid : IsFindable k a) (t : Term) (made : IsMade form es (find (entries_of k) a) t) where
    abbrev b : Applied
    b = find (entries_of k) a

    b-valid : IsFindable k b
    b-valid = found-valid (nodes_of k) (entries_of k) rest.sane.sound.linked a valid

    b-again : find (entries_of k) b ≡ b
    b-again = found-again (nodes_of k) (entries_of k) rest.sane.sound.linked a valid

    -- the class that the id finds, as callers see it
    class : class_found (image_of k) a.0 ≡ b.0
    class = class_found-is k a.0 (findable-within k a valid)

    within : (c : Applied) → IsFull (nodes_of k) c → c.0 < length k.classes
    within c full = let n : length (nodes_of k) ≡ length k.classes = length-nodes_of k in let m : c.0 < length (nodes_of k) = full.in_range in omega arith

    beside : (c : Applied) → IsFullBeside seen a c → find_class (entries_of k) c.0 ≡ b.0
    beside c h = sym (class_found-is k c.0 (within c h.0)) ∙ (h.1 ∙ class)

    trees : (u : Term) → look_up_term seen u ≡ look_up_tree g (nameless u)
    trees u = tree-is k r good rests seen refl refl (nameless u)

    seen-equal : IsEqualTo seen a (nameless t)
    seen-equal c fills = made-equal form k r rests.filed rests.quiet rest costs es least b b-valid b-again t made a valid refl [] c (fills-filling k a c fills)

    pub seen-least : IsLeastTerm seen costs a t
    seen-least = record {
      represented = trees t ∙ (made-looked_up form k r rests.filed rests.quiet rest costs es least b b-valid b-again t made ∙ ap Some (sym (found_id-is k a (findable-within k a valid))));
      equal = seen-equal;
      least = λ u c h same. made-least form k r rests.filed rests.quiet rest costs es least b b-valid b-again t made (nameless u) c (sym (trees u) ∙ h) (same ∙ class);
      canonical = λ c h. made-least_term form k r rests.filed rests.quiet rest costs es least b b-valid b-again t made c h.0 (beside c h);
      of_equal = λ untouched c h u tree equal.
          made-least_equal form k r rests.filed rests.quiet rest costs es least b b-valid b-again t made
          (λ touched. untouched (subst (IsAffected (image_of k)) (sym class) (affected-is k good r rest.sane rest.nothing_waits touched))) c h.0 (beside c h) u tree equal;
    }

    pub seen-cost : CostsAsEntered costs es (class_found (image_of k) a.0) t
    seen-cost e at = made-cost form k r rests.filed rests.quiet rest costs es least b b-valid b-again t made e (ap (entry_at es) (sym class) ∙ at)

  -- each live class has an entry
  pub seen-each : HasEachLiveClass seen es
  seen-each c live =
      let in_nodes : c < length (nodes_of k) = live.0 in
      let in_classes : c < length k.classes = let n : length (nodes_of k) ≡ length k.classes = length-nodes_of k in omega (arith, in_nodes) in
      let finds : find_class (entries_of k) c ≡ c = sym (class_found-is k c in_classes) ∙ live.1 in
      let lives : IsLive (entries_of k) c = subst (IsLive (entries_of k)) finds (found-live (nodes_of k) (entries_of k) (leads (nodes_of k) (entries_of k) rest.sane.sound.linked) c in_nodes) in
      let x = least.fits.covered c in_nodes lives in
      let e = option_map-some (λ (y : TermEntry L C). y.cost) (entry_at es c) x.0 (sym (least.same c) ∙ x.1) in
      (e.0, e.1)

-- what is made of entries for what a valid id finds is of least cost where they are
pub made-extracted : {L C : Type 0} (form : L → Form) (l : Kept) (g : Graph) → image_of l ≡ g.image → (es : List (Option (TermEntry L C))) (a : Applied) → IsFindable l a → IsValidId g a → (t : Term) → IsMade form es (find (entries_of l) a) t → IsExtracted form g es a t
made-extracted form l g same es a valid_in valid t made costs of =
    let k = of.kept in
    let r = of.rows in
    let fa : IsFindable k a = of-valid k of.good g of.image a valid in
    let found : find (entries_of l) a ≡ find (entries_of k) a =
    sym (found_id-is l a (findable-within l a valid_in)) ∙ (ap (λ (i : Image). found_id i a) (same ∙ sym of.image) ∙ found_id-is k a (findable-within k a fa)) in
    let here : IsMade form es (find (entries_of k) a) t = subst (λ b. IsMade form es b t) found made in
    let to : seen form k r of.good of.rests costs es of.least g ≡ g = λ i. record g { image = of.image i; filed = of.filed i } in (
      subst (λ h. IsLeastTerm h costs a t) to (seen-least form k r of.good of.rests costs es of.least g a fa t here),
      subst (λ (h : Graph). CostsAsEntered costs es (class_found h.image a.0) t) to (seen-cost form k r of.good of.rests costs es of.least g a fa t here),
    )

module _ {L C : Type 0} (form : L → Form) (order : L → L → Ordering) (k : Kept) (r : Rows) (good : Good k) (rests : RestsWith k r) (costs : CostFunction C) (es : List (Option (TermEntry L C))) where
  -- the choices that callers see are those of what is kept and filed
  seen-choice : (c : ℕ) (x : C) (q : Row) → IsChoice costs (class_found (image_of k)) (rows_in r.filed) es c x q → IsChoice costs (find_class (entries_of k)) (rows_in r.filed) es c x q
  seen-choice c x q h =
      let row = (at-rest k r good rests).sane.filed.each q h.filed in
      let within : q.source < length k.classes = let n : length (nodes_of k) ≡ length k.classes = length-nodes_of k in let m : q.source < length (nodes_of k) = row.in_range in omega arith in
      record {
        filed = h.filed;
        class = sym (class_found-is k q.source within) ∙ h.class;
        each = h.each;
        costs_are = h.costs_are;
        least = h.least;
        cheaper = h.cheaper;
      }

  pub seen-chosen : AreChosen form order costs (find_class (entries_of k)) (rows_in r.filed) es → (w : Graph) →
      AreChosenOf form order (record w { image = image_of k; filed = rows_in r.filed }) costs es
  seen-chosen chosen w c e at q h = chosen c e at q (seen-choice c e.cost q h)
