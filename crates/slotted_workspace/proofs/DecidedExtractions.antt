-- What an extraction from a graph that is decided first says of a kept term.
use Rattle.std.proofs.Common.{◌≡◌, ◌⊎◌, ◌↔◌, ◌∙◌, List, Result, Ok, Err, IfErr, IsErrOf, ap, refl, sym, subst, inl, inr}
use Rattle.std.specs.Prelude.{Bool, true, false, IsTrue, string_bytes}
use Rattle.std.proofs.lemmas.Bool.{false≢true}
use Rattle.slotted_slots.specs.declared.error.Error.{Error}
use Rattle.slotted_slots.specs.declared.error.Error.TheVariants.{Failed}
use Rattle.slotted_slots.specs.Error.{IsOutOfMemory}
use Rattle.slotted_slots.specs.Syntax.{Element}
use Rattle.slotted_theory.specs.Derives.{Derives, Equal}
use Rattle.slotted_theory.specs.Nameless.{DTerm, nameless}
use Rattle.slotted_theory.specs.Term.{Term}
use Rattle.slotted_theory.proofs.Forward.{Derives-equal}
use Rattle.slotted_languages.proofs.HandedOn.{error_or}
use Rattle.slotted_terms.specs.Shown.{term_text}
use Rattle.slotted_terms.specs.Valid.{IsValidTerm}
use Rattle.slotted_model.specs.Applied.{Applied}
use Rattle.slotted_model.specs.Cost.{AtMost, CostFunction, tree_cost}
use Rattle.slotted_costs.specs.Costs.{MayRefuse, cost_of_term}
use Rattle.slotted_proofs.specs.Equations.{to_applied}
use Rattle.slotted_operations.specs.Graph.{Graph}
use Rattle.slotted_operations.specs.Image.{asserted_in}
use Rattle.slotted_operations.proofs.CallerLemmas.{fills-itself}
use Rattle.slotted_graph.specs.Extension.{ExtendsTo}
use Rattle.slotted_deciding.specs.Steps.{CanRefuse, GoesTo}
use Rattle.slotted_decided.specs.Extracted.{IsLeastDecided}
use Rattle.slotted_workspace.specs.Decided.{ExtractDecidedRefused, ExtractsDecided}
use Rattle.slotted_workspace.specs.Keeping.{IsKept}
use Rattle.slotted_workspace.specs.declared.extracting.LeastText.{LeastText}
use Rattle.slotted_workspace.specs.declared.kept.Kept.{Kept}
use Rattle.slotted_workspace.proofs.Saying.{follows}
use Rattle.slotted_workspace.proofs.Staying.{kept-later}

pub extracts-decided : {L C : Type 0} (written : Term → List Element) (costs : CostFunction C) (g h : Graph) (k : Kept L) → IsKept g k → g.failed ≡ false → (t : Term) (x : LeastText C) → IsLeastDecided costs g h (to_applied k.id) t x.is_decided →
    x.cost ≡ cost_of_term costs t → IsValidTerm h.table t → string_bytes x.text ≡ term_text written h.table t → ExtractsDecided written costs g h k.term x
extracts-decided {L} {C} written costs g h k kept well t x least cost valid bytes =
    let m = least.between in
    let id = to_applied k.id in
    let there : IsKept m k = kept-later g m least.goes.extends k kept in
    let itself = fills-itself m.image id there.full.full in
    record {
      well = well;
      between = m;
      goes = least.goes;
      id = id;
      is_id = there.found;
      term = t;
      least = least.least;
      size = cost;
      no_larger =
          subst (λ n. AtMost costs n (cost_of_term costs k.term)) (sym cost)
          (subst (λ (d : DTerm). AtMost costs (cost_of_term costs t) (tree_cost costs d)) there.term (least.least.canonical id (there.full.full, refl)));
      follows = follows m.image k.term t (subst (λ (d : DTerm). Equal (asserted_in m.image) d (nameless t)) there.term (least.least.equal id itself));
      decided = λ yes. (least.decided yes).0;
      least_of_all = λ yes u E is derives.
          let equal : Equal (asserted_in m.image) (nameless k.term) (nameless u) = subst (λ (A : List (DTerm × DTerm)). Equal A (nameless k.term) (nameless u)) is (Derives-equal derives) in
          let from_id = subst (λ (d : DTerm). Equal (asserted_in m.image) d (nameless u)) (sym there.term) equal in
          subst (λ n. AtMost costs n (cost_of_term costs u)) (sym cost) ((least.decided yes).1 id (there.full.full, refl) u from_id);
      known = valid;
      bytes = bytes;
      takes = least.takes;
    }

pub extraction-refused : {A : Type 0} (refuses : Error → Type 0) (g h : Graph) (r : Result A Error) → (IsErrOf r Failed ↔ IsTrue g.failed) → (IsTrue g.failed → h ≡ g) → IsTrue h.failed ⊎ ExtendsTo g h → IfErr r (λ e. (e ≡ Failed) ⊎ CanRefuse e ⊎ MayRefuse refuses e) →
    IfErr r (ExtractDecidedRefused refuses g h)
extraction-refused refuses g h (Ok x) failed stays extends only = tt
extraction-refused refuses g h (Err e) failed stays extends only = by g.failed refl
  where
    other : g.failed ≡ false → (e ≡ Failed) ⊎ CanRefuse e ⊎ MayRefuse refuses e → ExtractDecidedRefused refuses g h e
    other well (inl is) = absurd (false≢true (sym well ∙ failed.0 (ap Err is)))
    other well (inr c) = inr (well, extends, c)

    by : (b : Bool) → g.failed ≡ b → ExtractDecidedRefused refuses g h e
    by true f = inl (f, stays f, ap (error_or Failed) (failed.1 f))
    by false well = other well only

-- memory ran out in what follows the extraction
pub text-refused : (refuses : Error → Type 0) (g h : Graph) (e : Error) → g.failed ≡ false → IsTrue h.failed ⊎ GoesTo g h → IsOutOfMemory e → ExtractDecidedRefused refuses g h e
text-refused refuses g h e well (inl failed) memory = inr (well, inl failed, inr (inl memory))
text-refused refuses g h e well (inr goes) memory = inr (well, inr goes.extends, inr (inl memory))
