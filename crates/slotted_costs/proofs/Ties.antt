-- Of candidates of one cost that over cheaper children comes first, and of two such ones that with the lesser key.
use Rattle.std.proofs.Common.{◌≡◌, ℕ, List, [], ◌∷◌, Option, None, Some, sym, ◌∙◌, ap, refl, subst, inl, inr}
use Rattle.std.specs.Prelude.{◌↔◌, All, Bool, Contains, IsTrue, false, true}
use Rattle.std.proofs.lemmas.Bool.{false≢true}
use Rattle.std.proofs.lemmas.List.Elements.{All-cons, All-head, All-nil, All-tail}
use Rattle.std.specs.Cmp.{IsTotalOrder, alike_right}
use Rattle.std.specs.Ordering.{bool_cmp, is_eq, is_le, is_lt, ordering_then, ordering_reverse, nat_cmp}
use Rattle.std.specs.declared.cmp.Ordering.{Ordering}
use Rattle.std.specs.declared.cmp.Ordering.TheVariants.{Less, Equal, Greater}
use Rattle.slotted_lists.proofs.Contained.{contains_head, contains_tail, contains_cases, Contains-nil}
use Rattle.slotted_lists.proofs.Options.{Some-same}
use Rattle.slotted_theory.specs.Nameless.{DTerm}
use Rattle.slotted_nodes.specs.Form.{Form}
use Rattle.slotted_model.specs.Cost.{CostFunction}
use Rattle.slotted_model.specs.Extraction.{TableEntry, cost_in, costs_in}
use Rattle.slotted_model.proofs.Data.Options.{both-some}
use Rattle.slotted_model.proofs.LeastTerms.Tables.{cost-kept, costs-each}
use Rattle.slotted_hashcons.specs.Filed.{Filing, HasKey}
use Rattle.slotted_costs.specs.Costs.{costs_by}
use Rattle.slotted_costs.specs.declared.candidate.Candidate.{Candidate}
use Rattle.slotted_costs.specs.Prices.{IsOverCheaper, candidate_cmp}

-- what is not less, though it costs no less, costs as much; so it is over cheaper children if the other one is, and its key is no greater
tied : (p : Ordering) (a b : Bool) (o t : Ordering) → is_le p ≡ true → b ≡ true → is_lt (ordering_then p (ordering_then (bool_cmp a b) (ordering_then o t))) ≡ false → (a ≡ true) × (is_le (ordering_reverse o) ≡ true)
tied Less a b o t le over h = absurd (cc)
tied Equal true true Less t le over h = absurd (cc)
tied Equal true true Equal t le over h = (refl, refl)
tied Equal true true Greater t le over h = (refl, refl)
tied Equal false true o t le over h = absurd (cc)
tied Equal a false o t le over h = absurd (cc)
tied Greater a b o t le over h = absurd (cc)

module _ {L C : Type 0} (order : L → L → Ordering) (total : IsTotalOrder order) (cmp : C → C → Ordering) where
  pub first-tied : (c d : Candidate L C) → is_lt (candidate_cmp order cmp c d) ≡ false → is_le (cmp d.cost.0 c.cost.0) ≡ true → IsTrue d.over_cheaper → IsTrue c.over_cheaper × (is_le (order c.key.0.now d.key.0.now) ≡ true)
  first-tied c d first le over =
      let h = tied (cmp d.cost.0 c.cost.0) c.over_cheaper d.over_cheaper (order d.key.0.now c.key.0.now) (nat_cmp d.source.0 c.source.0) le over first in
      (h.0, ap is_le (total.antisymm c.key.0.now d.key.0.now) ∙ h.1)

  -- by an order by which nodes of one form are equal they compare alike
  pub alike-order : (form : L → Form) → ((a b : L) → form a ≡ form b → order a b ≡ Equal) → (a b c d : L) → form a ≡ form c → form b ≡ form d → is_le (order c d) ≡ true → is_le (order a b) ≡ true
  alike-order form same a b c d p q h = ap is_le (total.congr a c b (same a c p) ∙ alike_right total b d c (same b d q)) ∙ h

-- nodes of one form are equal by an order that has the equality of the language
pub same-form : {L : Type 0} (form : L → Form) (eq : L → L → Bool) (order : L → L → Ordering) → ((a b : L) → eq a b ≡ is_eq (order a b)) → ((a b : L) → IsTrue (eq a b) ↔ form a ≡ form b) → (a b : L) → form a ≡ form b → order a b ≡ Equal
same-form form eq order ties same a b h = equal (order a b) (sym (ties a b) ∙ (same a b).1 h)
  where
    equal : (r : Ordering) → is_eq r ≡ true → r ≡ Equal
    equal Less k = absurd (cc)
    equal Equal k = refl
    equal Greater k = absurd (cc)

-- one key is filed of a class
pub key-same : (v : List (Option Filing)) (i : ℕ) (f h : Form) → HasKey v i f → HasKey v i h → f ≡ h
key-same v i f h p q = ap (λ (e : Filing). e.0) (Some-same (f, p.0) (h, q.0) (sym p.1 ∙ q.1))

module _ {C : Type 0} (k : CostFunction C) (e : TableEntry C) (table : List (TableEntry C)) (new : cost_in table e.class ≡ None) where
  -- what is over cheaper children stays so, if each of them had its cost before
  pub cheaper-kept : (cs : List ℕ) (xs : List C) → costs_in table cs ≡ Some xs → (x : C) → IsOverCheaper k table cs x → IsOverCheaper k (e ∷ table) cs x
  cheaper-kept cs xs p x over c i y q =
      let there : (w : C) × (cost_in table c ≡ Some w) = costs-each table cs xs p c i in
      let same : there.0 ≡ y = Some-same there.0 y (sym (cost-kept e table new c there.0 there.1) ∙ q) in
      over c i y (there.1 ∙ ap Some same)

  pub cheaper-before : (cs : List ℕ) (x : C) → IsOverCheaper k (e ∷ table) cs x → IsOverCheaper k table cs x
  cheaper-before cs x over c i y q = over c i y (cost-kept e table new c y q)

-- costs in a table are all costs of some class, and the other way round
all-costs : {C : Type 0} (P : C → Type 0) (table : List (TableEntry C)) (cs : List ℕ) (xs : List C) → costs_in table cs ≡ Some xs → All P xs → (c : ℕ) → Contains cs c → (y : C) → cost_in table c ≡ Some y → P y
all-costs P table [] xs h all c i y q = absurd (Contains-nil c i)
all-costs {C} P table (b ∷ cs) xs h all c i y q =
    let r = both-some (λ x ys. x ∷ ys) (cost_in table b) (costs_in table cs) xs h in
    let each : All P (r.0 ∷ r.1) = subst (All P) (sym r.4) all in
    elim (contains_cases b cs c i) [
      | inl e ↦ subst P (Some-same r.0 y (sym r.2 ∙ (ap (cost_in table) (sym e) ∙ q))) (All-head P r.0 r.1 each)
      | inr j ↦ all-costs P table cs r.1 r.3 (All-tail P r.0 r.1 each) c j y q
    ]

each-costs : {C : Type 0} (P : C → Type 0) (table : List (TableEntry C)) (cs : List ℕ) (xs : List C) → costs_in table cs ≡ Some xs → ((c : ℕ) → Contains cs c → (y : C) → cost_in table c ≡ Some y → P y) → All P xs
each-costs P table [] xs h each = subst (All P) (Some-same [] xs h) (All-nil P)
each-costs P table (b ∷ cs) xs h each =
    let r = both-some (λ x ys. x ∷ ys) (cost_in table b) (costs_in table cs) xs h in
    subst (All P) r.4 (All-cons P r.0 r.1 (each b (contains_head b cs) r.0 r.2) (each-costs P table cs r.1 r.3 (λ c i. each c (contains_tail b cs c i))))

-- less is not at most, the other way round
turned : (r : Ordering) → is_lt (ordering_reverse r) ≡ true ↔ ¬ (is_le r ≡ true)
turned Less = (λ h. absurd (cc), λ n. absurd (n refl))
turned Equal = (λ h. absurd (cc), λ n. absurd (n refl))
turned Greater = (λ h k. false≢true k, λ n. refl)

-- the children of a row cost less than x if each of their costs does
pub cheaper-iff : {C : Type 0} (cmp : C → C → Ordering) → IsTotalOrder cmp → (weight : DTerm → List C → C) (table : List (TableEntry C)) (cs : List ℕ) (xs : List C) → costs_in table cs ≡ Some xs → (x : C) →
    All (λ y. is_lt (cmp y x) ≡ true) xs ↔ IsOverCheaper (costs_by cmp weight) table cs x
cheaper-iff {C} cmp total weight table cs xs h x = (
  λ all c i y q. (turned (cmp x y)).0 (ap is_lt (sym (total.antisymm y x)) ∙ all-costs (λ (z : C). is_lt (cmp z x) ≡ true) table cs xs h all c i y q),
  λ over. each-costs (λ (z : C). is_lt (cmp z x) ≡ true) table cs xs h (λ c i y q. ap is_lt (total.antisymm y x) ∙ (turned (cmp x y)).1 (over c i y q)),
)
