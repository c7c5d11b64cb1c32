-- What the methods of a graph answer for `b[x := t]`.
use Rattle.std.proofs.Common.{◌≡◌, ◌∙◌, ap, sym, subst, inl, inr, ℕ, zero, suc, ◌<◌, List, [], ◌∷◌, Option, arith}
use Rattle.std.specs.Prelude.{◌⊎◌, IsErrAnd, IsTrue, IfErr, IfOk, Contains, OnErr, Result, Ok, Err, slice_index_or}
use Rattle.std.proofs.lemmas.Bool.{false≢true}
use Rattle.slotted_slots.specs.Error.{IsShortage}
use Rattle.std.specs.Ordering.{nat_cmp}
use Rattle.slotted_lists.proofs.Contained.{contains_head}
use Rattle.slotted_slots.specs.declared.error.Error.{Error}
use Rattle.slotted_slots.specs.declared.types.AppliedId.{AppliedId}
use Rattle.slotted_slots.specs.Table.{KnowsMore}
use Rattle.slotted_theory.specs.Nameless.{DTerm, nameless}
use Rattle.slotted_theory.specs.Term.{Term}
use Rattle.slotted_nodes.specs.Form.{Form}
use Rattle.slotted_model.specs.Applied.{Applied}
use Rattle.slotted_model.specs.Classes.{term_of}
use Rattle.slotted_model.specs.Cost.{CostFunction}
use Rattle.slotted_model.specs.Find.{find_class}
use Rattle.slotted_model.specs.Growth.{Extends}
use Rattle.slotted_model.proofs.Finds.Finding.{found-in_range, found-live, leads}
use Rattle.slotted_model.proofs.Data.Options.{None-Some, option_map-some}
use Rattle.slotted_model_rules.proofs.Substitutions.Representing.{itself-represented, pair-listed}
use Rattle.slotted_model_rules.specs.Representing.{is_listed}
use Rattle.slotted_model_rules.specs.Substitution.{substituted}
use Rattle.slotted_proofs.specs.Equations.{to_applied}
use Rattle.slotted_classes.specs.Finding.{IsFindable}
use Rattle.slotted_classes.specs.Kept.{entries_of, nodes_of}
use Rattle.slotted_costs.specs.Costs.{costs_by}
use Rattle.slotted_costs.specs.Size.{size_cost}
use Rattle.slotted_operations.proofs.Graphs.Images.{class_found-is}
use Rattle.slotted_operations.proofs.Ids.ValidIds.{findable-within, of-valid}
use Rattle.slotted_graph.specs.Causes.{class_found}
use Rattle.slotted_graph.specs.Graph.{Graph, IsFullId, OnlyTakesSlots}
use Rattle.slotted_graph.specs.Image.{AddsClasses, Image}
use Rattle.slotted_graph.specs.States.{IsGraph}
use Rattle.slotted_graph.specs.Extension.{ExtendsTo}
use Rattle.slotted_graph.specs.Terms.{entry_at}
use Rattle.slotted_graph.specs.ValidIds.{IsValidId}
use Rattle.slotted_graph.specs.LeastTerms.{AreLeastOf, IsLeastTerm, LacksEntry}
use Rattle.slotted_graph.specs.declared.entry.TermEntry.{TermEntry}
use Rattle.slotted_graph.proofs.Extending.{extends-itself}
use Rattle.slotted_rules.specs.Building.{Builds}
use Rattle.slotted_rules.specs.Methods.{SubstitutesBy, canonical, extracted}
use Rattle.slotted_rules.specs.Substituting.{Replaces}
use Rattle.slotted_rules.proofs.Growing.{builds-takes, builds-then, graph-added}

-- where the canonical term of the body is looked into
pub canonical-answers : (g h : Graph) (b x t a : Applied) → Replaces g h x t b a → SubstitutesBy canonical g h b x t a
canonical-answers g h b x t a r = record {
  full = r.full;
  asserts = r.builds.asserts;
  pairs = [];
  are = λ p c. absurd (omega (arith, c.1));
  body = term_of h.image.canonical b;
  stands = itself-represented [] (term_of h.image.canonical b);
  term = r.replaced.1;
}

-- what a valid id finds has an entry
pub entry-found : {L C : Type 0} (form : L → Form) (g : Graph) (costs : CostFunction C) (es : List (Option (TermEntry L C))) → AreLeastOf form g costs es → (a : Applied) → IsValidId g a → ¬ LacksEntry g es a
entry-found {L} {C} form g costs es of a valid none =
    let k = of.kept in
    let nodes = nodes_of k in
    let found = entries_of k in
    let fa : IsFindable k a = of-valid k of.good g of.image a valid in
    let class : class_found g.image a.0 ≡ find_class found a.0 = ap (λ (i : Image). class_found i a.0) (sym of.image) ∙ class_found-is k a.0 (findable-within k a fa) in
    let lead = leads nodes found of.rests.filed.sane.sound.linked in
    let x = of.least.fits.covered (find_class found a.0) (found-in_range nodes found lead a.0 fa.in_range) (found-live nodes found lead a.0 fa.in_range) in
    let e = option_map-some (λ (y : TermEntry L C). y.cost) (entry_at es (find_class found a.0)) x.0 (sym (of.least.same (find_class found a.0)) ∙ x.1) in
    None-Some e.0 (sym none ∙ (ap (entry_at es) class ∙ e.1))

-- where a term of fewest nodes was added: e is the graph after it was extracted, and f that in which it has the id body
module _ (g e f : Graph) (is : IsGraph g) (takes : OnlyTakesSlots g e) (extends : Extends e.image.canonical f.image.canonical) (adds : AddsClasses e.image f.image) (more : KnowsMore e.table f.table) (rests : IsTrue f.failed ⊎ IsGraph f) (well : IsTrue f.failed → ⊥) where
  pub added-builds : Builds g f
  added-builds = builds-then g e f (builds-takes g e is takes) (graph-added e f rests well extends adds more)

  pub extracted-answers : (h : Graph) (b x t body a : Applied) (u : Term) → IsFullId g b → IsLeastTerm g (costs_by nat_cmp size_cost) b u → IsFullId f body → term_of f.image.canonical body ≡ nameless u → Replaces f h x t body a → SubstitutesBy extracted g h b x t a
  extracted-answers h b x t body a u full least body_full stands r =
      let all = builds-then g f h added-builds r.builds in
      let was : DTerm = term_of g.image.canonical b in
      let same : term_of h.image.canonical b ≡ was = all.grows.extends.canonical.terms b full.full in
      let pairs : List (DTerm × DTerm) = (was, nameless u) ∷ [] in
      record {
        full = r.full;
        asserts = all.asserts;
        pairs = pairs;
        are = λ p c. only p (was, nameless u) c (λ q.
            record {
              moment = g;
              between = record { graph = is; after = extends-itself g; before = all.grows.extends };
              id = b;
              full = full;
              is = ap (λ z. z.0) q;
              term = u;
              least = least;
              represents = ap (λ z. z.1) q;
            });
        body = nameless u;
        stands = subst (λ z. IsTrue (is_listed pairs z (nameless u))) (sym same) (pair-listed pairs was (nameless u) (contains_head (was, nameless u) []));
        term = r.replaced.1 ∙ ap (substituted (term_of h.image.canonical x) (term_of h.image.canonical t)) (r.builds.grows.extends.canonical.terms body body_full.full ∙ stands);
      }
    where
      at-zero : {A : Type 0} (p q : A) (k : ℕ) → k < 1 → slice_index_or (q ∷ []) k p ≡ p → p ≡ q
      at-zero p q zero l e = sym e
      at-zero p q (suc k) l e = absurd (omega arith)

      only : {A : Type 0} {P : Type 0} (p q : A) → Contains (q ∷ []) p → (p ≡ q → P) → P
      only p q c k = k (at-zero p q c.0 c.1 c.2)

-- whatever is answered, the graph is extended or has failed
pub replaced-extends : (f h : Graph) (x t b : Applied) (r : Result AppliedId Error) → IfOk r (λ a. Replaces f h x t b (to_applied a)) → OnErr r (IsTrue h.failed ⊎ Builds f h) → IsTrue h.failed ⊎ Builds f h
replaced-extends f h x t b (Ok a) ok err = inr ok.builds
replaced-extends f h x t b (Err e) ok err = err

pub replaced-rests : (f h : Graph) (x t b : Applied) (r : Result AppliedId Error) → IfOk r (λ a. Replaces f h x t b (to_applied a)) → OnErr r (IsTrue h.failed ⊎ Builds f h) → IsTrue h.failed ⊎ IsGraph h
replaced-rests f h x t b r ok err = elim (replaced-extends f h x t b r ok err) [
  | inl failed ↦ inl failed
  | inr builds ↦ inr builds.grows.graph
]

pub replaced-fails : (f h : Graph) (x t b : Applied) (r : Result AppliedId Error) → IfOk r (λ a. Replaces f h x t b (to_applied a)) → IfErr r IsShortage → IsTrue h.failed → IsErrAnd r IsShortage
replaced-fails f h x t b (Ok a) ok only failed = absurd (false≢true (sym ok.builds.grows.graph.well ∙ failed))
replaced-fails f h x t b (Err e) ok only failed = only

pub only-short : {A : Type 0} (r : Result A Error) → IfErr r IsShortage → IfErr r (λ e. IsShortage e ⊎ ⊥)
only-short (Ok x) only = tt
only-short (Err e) only = inl only

pub extends-from : (f g h : Graph) → Builds f g → IsTrue h.failed ⊎ Builds g h → IsTrue h.failed ⊎ ExtendsTo f h
extends-from f g h b (inl failed) = inl failed
extends-from f g h b (inr c) = inr (builds-then f g h b c).grows.extends
