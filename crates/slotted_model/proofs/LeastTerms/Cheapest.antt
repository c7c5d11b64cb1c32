-- What a fitting table extracts costs least: among the trees that are looked up as an id of the found class, the terms of such ids, and the trees that are equal to the id's term.
use Rattle.std.proofs.Common.{◌≡◌, ℕ, ◌<◌, List, [], ◌∷◌, length, Some, sym, ◌∙◌, ap, subst, inl, inr}
use Rattle.std.proofs.lemmas.Bool.{cases_eq}
use Rattle.slotted_lists.proofs.Options.{Some-same}
use Rattle.slotted_theory.specs.Nameless.{DTerm}
use Rattle.slotted_theory.specs.Derives.{Equal}
use Rattle.slotted_model.specs.Applied.{Applied}
use Rattle.slotted_model.specs.Classes.{term_of, IsFull}
use Rattle.slotted_model.specs.Filling.{IsFilling}
use Rattle.slotted_model.specs.Find.{find_class, find}
use Rattle.slotted_model.specs.Growth.{identity_id}
use Rattle.slotted_model.specs.ProofList.{asserted}
use Rattle.slotted_model.specs.State.{State, look_up_tree}
use Rattle.slotted_model.specs.Rest.{IsValidIn, AtRest, IsAffected}
use Rattle.slotted_model.specs.Trees.{IsTree}
use Rattle.slotted_model.specs.Cost.{CostFunction, AtMost, tree_cost}
use Rattle.slotted_model.specs.Extraction.{IsLawfulFor, TableEntry, cost_in, IsInOrder, Fits, Extracts}
use Rattle.slotted_model.proofs.Complete.AtRest.{rest-look_up}
use Rattle.slotted_model.proofs.Finds.NormalIds.{filling-found, full-is_valid}
use Rattle.slotted_model.proofs.Represented.Growing.{identity-full}
use Rattle.slotted_model.proofs.Complete.LookUpsAreEqual.{found-equal}
use Rattle.slotted_model.proofs.Data.Options.{None-Some}
use Rattle.slotted_model.proofs.LeastTerms.Tables.{cost-later}
use Rattle.slotted_model.proofs.LeastTerms.Optimal.{CostOfFound, tree-at_most, term-at_most}
use Rattle.slotted_model.proofs.LeastTerms.Extracting.{extracts, extracted-look_up, extracted-cost}

-- a class with a cost is found from the source of its row
class-of : {C : Type 0} (g : State) → AtRest g → (k : CostFunction C) (table : List (TableEntry C)) → IsInOrder g k table → (c : ℕ) (y : C) → cost_in table c ≡ Some y → (i : ℕ) × (i < length g.nodes) × (find_class g.found i ≡ c)
class-of g rest k [] h c y q = absurd (None-Some y q)
class-of g rest k (e ∷ table) h c y q = elim (cases_eq e.class c) [
  | inl s ↦ (e.row.source, (rest.sane.filed.each e.row h.0.candidate.filed).in_range, h.0.class ∙ s)
  | inr n ↦ class-of g rest k table h.1 c y (sym (cost-later e table c n) ∙ q)
]

-- what is extracted is equal to the id's term, whatever names fill it
pub extracted-equal : {C : Type 0} (g : State) → AtRest g → (k : CostFunction C) (table : List (TableEntry C)) → IsInOrder g k table → (a : Applied) → IsValidIn g a → (t : DTerm) → Extracts g table a t →
    (b : Applied) (given : List ℕ) → IsFilling g.nodes given a b → Equal (asserted g.nodes g.proofs) (term_of g.nodes b) t
extracted-equal g rest k table in_order a v t x b given f =
    found-equal g rest b f.full t (extracted-look_up g k table rest in_order x ∙ ap Some (filling-found g.nodes g.found rest.sane.sound.linked given a b v f))

module _ {C : Type 0} (g : State) (rest : AtRest g) (k : CostFunction C) (law : IsLawfulFor C g k) (table : List (TableEntry C)) (fits : Fits C g k table) (a : Applied) (t : DTerm) (x : Extracts g table a t) where
  -- what costs no less than the found class costs no less than what is extracted
  no_less : (u : DTerm) → CostOfFound C g k table u (find_class g.found a.0) → AtMost k (tree_cost k t) (tree_cost k u)
  no_less u m =
      subst (λ y. AtMost k y (tree_cost k u)) (Some-same m.cost (tree_cost k t) (sym m.there ∙ extracted-cost g k table rest fits.in_order law x)) m.at_most

  pub least-represented : (u : DTerm) (b : Applied) → look_up_tree g u ≡ Some b → b.0 ≡ find_class g.found a.0 → AtMost k (tree_cost k t) (tree_cost k u)
  least-represented u b p e = no_less u (subst (CostOfFound C g k table u) e (tree-at_most g k table rest law fits u b p))

  pub least-term : (b : Applied) → IsFull g.nodes b → find_class g.found b.0 ≡ find_class g.found a.0 → AtMost k (tree_cost k t) (tree_cost k (term_of g.nodes b))
  least-term b full e = no_less (term_of g.nodes b) (subst (CostOfFound C g k table (term_of g.nodes b)) e (term-at_most g k table rest law fits b full))

  pub least-equal : (b : Applied) → IsFull g.nodes b → find_class g.found b.0 ≡ find_class g.found a.0 → ¬ IsAffected g (find_class g.found a.0) →
      (u : DTerm) → IsTree u → Equal (asserted g.nodes g.proofs) (term_of g.nodes b) u → AtMost k (tree_cost k t) (tree_cost k u)
  least-equal b full e n u h p = least-represented u (find g.found b) (rest-look_up g rest b full (subst (λ c. ¬ IsAffected g c) (sym e) n) u h p) e

-- no table of the same graph has a lower cost
pub least-table : {C : Type 0} (g : State) → AtRest g → (k : CostFunction C) → IsLawfulFor C g k → (table other : List (TableEntry C)) → Fits C g k table → IsInOrder g k other →
    (c : ℕ) (x y : C) → cost_in table c ≡ Some x → cost_in other c ≡ Some y → AtMost k x y
least-table {C} g rest k law table other fits in_order c x y p q =
    let linked = rest.sane.sound.linked in
    let live : (i : ℕ) × (i < length g.nodes) × (find_class g.found i ≡ c) = class-of g rest k other in_order c y q in
    let a : Applied = identity_id g.nodes live.0 in
    let v : IsValidIn g a = full-is_valid g.nodes g.found linked a (identity-full g.nodes live.0 live.1) in
    let t : (t : DTerm) × Extracts g other a t = extracts g k other rest in_order a v y (ap (cost_in other) live.2 ∙ q) in
    let same : tree_cost k t.0 ≡ y = Some-same (tree_cost k t.0) y (sym (extracted-cost g k other rest in_order law t.1) ∙ (ap (cost_in other) live.2 ∙ q)) in
    let m : CostOfFound C g k table t.0 (find_class g.found live.0) = tree-at_most g k table rest law fits t.0 (find g.found a) (extracted-look_up g k other rest in_order t.1) in
    let one : m.cost ≡ x = Some-same m.cost x (sym m.there ∙ (ap (cost_in table) live.2 ∙ p)) in
    subst (λ z. AtMost k z y) one (subst (AtMost k m.cost) same m.at_most)
