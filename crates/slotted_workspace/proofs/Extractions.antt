-- What an extraction of a kept term says of the term.
use Rattle.std.proofs.Common.{◌≡◌, ◌⊎◌, ◌↔◌, ◌∙◌, List, Err, IsErrOf, ap, refl, sym, subst, inl, inr}
use Rattle.std.specs.Prelude.{Bool, true, false, IsTrue, String, string_bytes}
use Rattle.std.specs.declared.alloc.Global.{Global}
use Rattle.std.proofs.lemmas.Bool.{false≢true}
use Rattle.slotted_slots.specs.declared.error.Error.{Error}
use Rattle.slotted_slots.specs.declared.error.Error.TheVariants.{OutOfSlots, Failed}
use Rattle.slotted_slots.specs.Error.{IsOutOfMemory, IsShortage}
use Rattle.slotted_slots.specs.Syntax.{Element}
use Rattle.slotted_theory.specs.Term.{Term}
use Rattle.slotted_theory.specs.Nameless.{DTerm, nameless}
use Rattle.slotted_theory.specs.Derives.{Equal}
use Rattle.slotted_nodes.specs.Form.{Form}
use Rattle.slotted_languages.proofs.HandedOn.{error_or}
use Rattle.slotted_terms.specs.Shown.{term_text}
use Rattle.slotted_terms.specs.Valid.{IsValidTerm}
use Rattle.slotted_model.specs.Applied.{Applied}
use Rattle.slotted_model.specs.Cost.{AtMost, CostFunction, tree_cost}
use Rattle.slotted_costs.specs.Costs.{MayRefuse, cost_of_term}
use Rattle.slotted_proofs.specs.Equations.{to_applied}
use Rattle.slotted_operations.specs.Graph.{Graph, OnlyTakesSlots}
use Rattle.slotted_operations.specs.Image.{asserted_in}
use Rattle.slotted_explain.proofs.CallerLemmas.{fills-itself}
use Rattle.slotted_graph.specs.LeastTerms.{IsLeastTerm, MakesForLeast, RunsOutForLeast}
use Rattle.slotted_commands.proofs.Extracting.{not_slots}
use Rattle.slotted_workspace.specs.Asked.{ExtractByRefused, ExtractsBy, cost_refused, extraction_ran_out}
use Rattle.slotted_workspace.specs.Asked as asked
use Rattle.slotted_workspace.specs.Keeping.{IsKept}
use Rattle.slotted_workspace.specs.declared.kept.Kept.{Kept}
use Rattle.slotted_workspace.proofs.Saying.{follows}

module _ {L C : Type 0} (form : L → Form) (written : Term → List Element) (costs : CostFunction C) (g h : Graph) (k : Kept L) (kept : IsKept g k) (takes : OnlyTakesSlots g h) where
  abbrev id : Applied
  id = to_applied k.id

  pub extracts : (t : Term) (cost : C) (text : String Global) → g.failed ≡ false → IsLeastTerm g costs id t → IsValidTerm h.table t → (h ≡ g) ⊎ MakesForLeast form costs id g h → cost ≡ cost_of_term costs t → string_bytes text ≡ term_text written h.table t →
      ExtractsBy form written costs g h k.term cost text
  extracts t cost text well least valid count size bytes = record {
    well = well;
    id = id;
    is_id = kept.found;
    term = t;
    least = least;
    size = size;
    no_larger =
        subst (λ n. AtMost costs n (cost_of_term costs k.term)) (sym size)
        (subst (λ (d : DTerm). AtMost costs (cost_of_term costs t) (tree_cost costs d)) kept.term (least.canonical id (kept.full.full, refl)));
    follows = follows g.image k.term t (subst (λ (d : DTerm). Equal (asserted_in g.image) d (nameless t)) kept.term (least.equal id (fills-itself g.image id kept.full.full)));
    known = valid;
    bytes = bytes;
    takes = takes;
    count = count;
  }

  -- memory ran out in what follows the extraction
  pub extract-ends : (refuses : Error → Type 0) (e : Error) → g.failed ≡ false → IsOutOfMemory e → ExtractByRefused form costs refuses g h k.term e
  extract-ends refuses e well memory = extraction_ran_out id well kept.found (inl memory) (λ o. absurd (not_slots e memory o)) takes

pub extract-refused : {L C T : Type 0} (form : L → Form) (costs : CostFunction C) (refuses : Error → Type 0) (g h : Graph) (k : Kept L) → IsTrue g.failed ⊎ IsKept g k → OnlyTakesSlots g h → (IsTrue g.failed → h ≡ g) → (e : Error) → (IsErrOf {T = T} (Err e) Failed ↔ IsTrue g.failed) →
    (IsErrOf {T = T} (Err e) OutOfSlots → MayRefuse refuses OutOfSlots ⊎ RunsOutForLeast form costs (to_applied k.id) g h) → (e ≡ Failed) ⊎ (IsShortage e ⊎ MayRefuse refuses e) → ExtractByRefused form costs refuses g h k.term e
extract-refused form costs refuses g h k kept takes stays e failed full only = by g.failed refl
  where
    ran-out : g.failed ≡ false → IsKept g k → e ≡ OutOfSlots → MayRefuse refuses OutOfSlots ⊎ RunsOutForLeast form costs (to_applied k.id) g h → ExtractByRefused form costs refuses g h k.term e
    ran-out well v is (inl (inl memory)) = absurd (not_slots OutOfSlots memory refl)
    ran-out well v is (inl (inr refused)) = cost_refused well (subst refuses (sym is) refused) takes
    ran-out well v is (inr lacks) = extraction_ran_out (to_applied k.id) well v.found (inr is) (λ _. lacks) takes

    ends : g.failed ≡ false → IsTrue g.failed ⊎ IsKept g k → (e ≡ Failed) ⊎ (IsShortage e ⊎ MayRefuse refuses e) → ExtractByRefused form costs refuses g h k.term e
    ends well (inl f) o = absurd (false≢true (sym well ∙ f))
    ends well (inr v) (inl f) = absurd (false≢true (sym well ∙ failed.0 (ap Err f)))
    ends well (inr v) (inr (inl (inl memory))) = extraction_ran_out (to_applied k.id) well v.found (inl memory) (λ o. absurd (not_slots e memory o)) takes
    ends well (inr v) (inr (inl (inr is))) = ran-out well v is (full (ap Err is))
    ends well (inr v) (inr (inr (inl memory))) = extraction_ran_out (to_applied k.id) well v.found (inl memory) (λ o. absurd (not_slots e memory o)) takes
    ends well (inr v) (inr (inr (inr refused))) = cost_refused well refused takes

    by : (b : Bool) → g.failed ≡ b → ExtractByRefused form costs refuses g h k.term e
    by true f = asked.ExtractByRefused.had_failed (f, stays f, ap (error_or Failed) (failed.1 f))
    by false well = ends well kept only
