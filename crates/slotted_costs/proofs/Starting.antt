-- The rows without children wait from the start on.
use Rattle.std.proofs.Common.{◌≡◌, ◌<◌, ◌≤◌, ℕ, zero, suc, ◌+◌, List, [], ◌∷◌, length, Option, Some, None, sym, ◌∙◌, ap, refl, subst, inl, inr, arith}
use Rattle.std.specs.Prelude.{Contains, option_map}
use Rattle.std.proofs.lemmas.Bool.{cases_eq, cases_lt}
use Rattle.std.specs.declared.cmp.Ordering.{Ordering}
use Rattle.slotted_lists.proofs.Contained.{Contains-nil}
use Rattle.slotted_nodes.specs.Form.{Form}
use Rattle.slotted_languages.specs.NodeTerm.{nameless_node}
use Rattle.slotted_model.specs.Cost.{CostFunction}
use Rattle.slotted_model.specs.Extraction.{TableEntry, costs_in}
use Rattle.slotted_model.specs.State.{State}
use Rattle.slotted_model.proofs.Data.Options.{None-Some}
use Rattle.slotted_hashcons.specs.Filed.{Filing, filed_of}
use Rattle.slotted_hashcons.specs.FiledRows.{key_children}
use Rattle.slotted_costs.specs.declared.candidate.Candidate.{Candidate}
use Rattle.slotted_costs.specs.Prices.{IsCandidateFor, Pushes, filing_children, filing_cost, filed_cost, pairs_of, children_of}
use Rattle.slotted_costs.specs.Counts.{AreCounts}
use Rattle.slotted_costs.specs.Making.{IsMaking}
use Rattle.slotted_costs.proofs.Counting.{missing-start}
use Rattle.slotted_costs.proofs.Telling.{HasPushed, has-pushed}

module _ {L C : Type 0} (form : L → Form) (k : CostFunction C) (table : List (TableEntry C)) (v : List (Option Filing)) where
  pub record StartsWith (n : ℕ) (queue : List (Candidate L C)) : Type 0 where
    pub each : (c : Candidate L C) → Contains queue c → IsCandidateFor form k table v c.source.0 c
    pub has : (i : ℕ) (x : C) → i < n → filed_cost k table v i ≡ Some x → Contains (pairs_of queue) (i, x)

  pub starts-none : (queue : List (Candidate L C)) → queue ≡ [] → StartsWith 0 queue
  starts-none queue e = record {
    each = λ c d. absurd (Contains-nil c (subst (λ q. Contains q c) e d));
    has = λ i x lt h. absurd (omega arith);
  }

  pub starts-next : (n : ℕ) (q r : List (Candidate L C)) → StartsWith n q → Pushes form k table v n q r → StartsWith (n + 1) r
  starts-next n q r s p =
      let h : HasPushed form k table v n q r = has-pushed form k table v n q r p in
      record {
        each = λ c d. elim (h.from c d) [
          | inl w ↦ s.each c w
          | inr w ↦ w
        ];
        has = λ i x lt o. elim (cases_eq i n) [
          | inl e ↦ subst (λ m. Contains (pairs_of r) (m, x)) (sym e) (h.pushed x (ap (filed_cost k table v) (sym e) ∙ o))
          | inr d ↦ h.kept i x (s.has i x (omega (arith, d)) o)
        ];
      }

  -- a row that has no cost does not wait
  pub starts-without : (n : ℕ) (q : List (Candidate L C)) → StartsWith n q → filed_cost k table v n ≡ None → StartsWith (n + 1) q
  starts-without n q s none = record {
    each = s.each;
    has = λ i x lt o. elim (cases_eq i n) [
      | inl e ↦ absurd (None-Some x (sym none ∙ (ap (filed_cost k table v) (sym e) ∙ o)))
      | inr d ↦ s.has i x (omega (arith, d)) o
    ];
  }

-- a row with children has no cost at first
costs-empty : {C : Type 0} (cs : List ℕ) → 0 < length cs → costs_in {C = C} [] cs ≡ None
costs-empty [] lt = absurd (omega arith)
costs-empty (c ∷ cs) lt = refl

filing-waits : {C : Type 0} (k : CostFunction C) (o : Option Filing) → 0 < length (filing_children o) → filing_cost k [] o ≡ None
filing-waits k None lt = refl
filing-waits k (Some e) lt = ap (option_map (k.node_cost (nameless_node e.0))) (costs-empty (key_children e.0) lt)

pub row-waits : {C : Type 0} (k : CostFunction C) (v : List (Option Filing)) (i : ℕ) → 0 < length (children_of v i) → filed_cost k [] v i ≡ None
row-waits k v i lt = filing-waits k (filed_of v i) lt

past-none : (v : List (Option Filing)) (i : ℕ) → length v ≤ i → filed_of v i ≡ None
past-none [] i le = refl
past-none (x ∷ v) zero le = absurd (omega arith)
past-none (x ∷ v) (suc i) le = past-none v i (omega arith)

pub making-starts : {L C : Type 0} (form : L → Form) (order : L → L → Ordering) (g : State) (v : List (Option Filing)) (k : CostFunction C) (queue : List (Candidate L C)) (lacking : List ℕ) (n : ℕ) →
    length v ≤ n → StartsWith form k [] v n queue → AreCounts v lacking → IsMaking form order g v k [] queue lacking
making-starts {L} {C} form order g v k queue lacking n past s counts = record {
  least_first = tt;
  ties = tt;
  each = s.each;
  has = λ i x h new. elim (cases_lt i n) [
    | inl lt ↦ s.has i x lt h
    | inr le ↦ absurd (None-Some x (sym (ap (filing_cost k []) (past-none v i (omega arith))) ∙ h))
  ];
  counts = λ i. counts.each i ∙ sym (missing-start C (children_of v i));
  lists = counts.lists;
}
