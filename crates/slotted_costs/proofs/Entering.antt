-- The making of a table: it starts, a candidate has its turn, and nothing waits in the end.
use Rattle.std.proofs.Common.{◌≡◌, ◌<◌, ◌≤◌, ℕ, ◌+◌, List, [], ◌∷◌, length, Option, Some, None, sym, ◌∙◌, ap, refl, subst, inl, inr, arith}
use Rattle.std.specs.Prelude.{◌≢◌, Contains, slice_index_or, IsTrue, true, false}
use Rattle.std.specs.Cmp.{IsTotalOrder}
use Rattle.std.specs.Ordering.{bool_cmp, is_le, is_lt, ordering_then, ordering_reverse, nat_cmp}
use Rattle.std.specs.declared.cmp.Ordering.{Ordering}
use Rattle.std.specs.declared.cmp.Ordering.TheVariants.{Less, Equal, Greater}
use Rattle.std.specs.List.Sorted.{IsPermutation}
use Rattle.std.proofs.lemmas.List.Sorted.{IsPermutation-map, IsPermutation-sym, Contains-permutation}
use Rattle.slotted_lists.proofs.Contained.{contains_head, contains_tail, contains_cases, Contains-nil, Contains-of_map}
use Rattle.slotted_theory.specs.Nameless.{DTerm}
use Rattle.slotted_nodes.specs.Form.{Form}
use Rattle.slotted_model.specs.Cost.{CostFunction, AtMost}
use Rattle.slotted_model.specs.Find.{find_class}
use Rattle.slotted_model.specs.State.{Row, State, child_classes}
use Rattle.slotted_model.specs.Extraction.{TableEntry, cost_in, costs_in, row_cost, IsCandidate, BreaksTies, CanEnterTable, IsLeast, IsFinished}
use Rattle.slotted_model.proofs.Data.Options.{None-Some}
use Rattle.slotted_model.proofs.LeastTerms.Tables.{cost-here, none-before, row-kept}
use Rattle.slotted_model.proofs.LeastTerms.Queues.{costs-asked}
use Rattle.slotted_hashcons.specs.Filed.{Filing, HasKey, filed_of}
use Rattle.slotted_hashcons.specs.FiledRows.{rows_in, row_of_entry, key_children}
use Rattle.slotted_hashcons.proofs.FiledRows.{row-children, row-filed, filed-row}
use Rattle.slotted_costs.specs.Costs.{costs_by}
use Rattle.slotted_costs.specs.declared.candidate.Candidate.{Candidate}
use Rattle.slotted_costs.specs.Prices.{IsCandidateFor, IsOverCheaper, children_of, filing_children, filed_cost, candidate_cmp, pair_of, pairs_of}
use Rattle.slotted_costs.specs.Counts.{times, missing, AreUsers}
use Rattle.slotted_costs.specs.Least.{comes_first}
use Rattle.slotted_costs.specs.Making.{IsMaking, IsTurn, Told}
use Rattle.slotted_costs.proofs.Counting.{missing-entered, missing-none, times-there, times-contains}
use Rattle.slotted_costs.proofs.Ties.{alike-order, cheaper-before, cheaper-kept, first-tied, key-same}
use Rattle.slotted_costs.proofs.Rows.{HasFiledCost, has-cost, cost-by, row-cost}

-- of two candidates the one that has its turn first costs no more
not-less : {C : Type 0} (cmp : C → C → Ordering) → IsTotalOrder cmp → (x y : C) (o : Ordering) → is_lt (ordering_then (cmp y x) o) ≡ false → IsTrue (is_le (cmp x y))
not-less cmp order x y o h = subst (λ r. IsTrue (is_le r)) (sym (order.antisymm x y)) (by_case (cmp y x) h)
  where
    by_case : (r : Ordering) → is_lt (ordering_then r o) ≡ false → is_le (ordering_reverse r) ≡ true
    by_case Less k = absurd (cc)
    by_case Equal k = refl
    by_case Greater k = refl

pub least-popped : {L C : Type 0} (order : L → L → Ordering) (cmp : C → C → Ordering) → IsTotalOrder cmp → (weight : DTerm → List C → C) (next c : Candidate L C) → is_lt (candidate_cmp order cmp next c) ≡ false →
    AtMost (costs_by cmp weight) next.cost.0 c.cost.0
least-popped order cmp total weight next c first =
    not-less cmp total next.cost.0 c.cost.0 (ordering_then (bool_cmp next.over_cheaper c.over_cheaper) (ordering_then (order c.key.0.now next.key.0.now) (nat_cmp c.source.0 next.source.0))) first

module _ {L C : Type 0} (form : L → Form) (order : L → L → Ordering) (g : State) (v : List (Option Filing)) (rows : g.rows ≡ rows_in v) (cmp : C → C → Ordering) (weight : DTerm → List C → C) where
  abbrev k : CostFunction C
  k = costs_by cmp weight

  -- a queue in another order
  pub making-permuted : (table : List (TableEntry C)) (q r : List (Candidate L C)) (lacking : List ℕ) → IsPermutation q r → IsMaking form order g v k table q lacking → IsMaking form order g v k table r lacking
  making-permuted table q r lacking p m = record {
    least_first = m.least_first;
    ties = m.ties;
    each = λ c d. m.each c (Contains-permutation r q c (IsPermutation-sym q r p) d);
    has = λ i x h n. Contains-permutation (pairs_of q) (pairs_of r) (i, x) (IsPermutation-map pair_of q r p) (m.has i x h n);
    counts = m.counts;
    lists = m.lists;
  }

  -- a candidate whose class has a cost is passed over
  pub making-passed : (table : List (TableEntry C)) (next : Candidate L C) (queue : List (Candidate L C)) (lacking : List ℕ) → IsMaking form order g v k table (next ∷ queue) lacking → cost_in table (find_class g.found next.source.0) ≢ None → IsMaking form order g v k table queue lacking
  making-passed table next queue lacking m there = record {
    least_first = m.least_first;
    ties = m.ties;
    each = λ c d. m.each c (contains_tail next queue c d);
    has = λ i x h n. elim (contains_cases (pair_of next) (pairs_of queue) (i, x) (m.has i x h n)) [
      | inl e ↦ absurd (there (ap (λ (p : ℕ × C). cost_in table (find_class g.found p.0)) (sym e) ∙ n))
      | inr c ↦ c
    ];
    counts = m.counts;
    lists = m.lists;
  }

  -- a row that can enter is filed, and has this cost
  record IsFiledCandidate (table : List (TableEntry C)) (r : Row) (y : C) : Type 0 where
    class : ℕ
    key : Form
    names : List (ℕ × ℕ)
    filed : filed_of v class ≡ Some (key, names)
    is : r ≡ row_of_entry (key, (class, names))
    cost : filed_cost k table v class ≡ Some y
    new : cost_in table (find_class g.found class) ≡ None

  candidate-filed : (table : List (TableEntry C)) (r : Row) (y : C) → IsCandidate C g k table r y → IsFiledCandidate table r y
  candidate-filed table r y n =
      let h = filed-row v r (subst (λ l. Contains l r) rows n.filed) in
      record {
        class = h.0;
        key = h.1;
        names = h.2;
        filed = h.3;
        is = h.4;
        cost = sym (row-cost cmp weight table v h.0 h.1 h.2 h.3) ∙ (ap (row_cost k table) (sym h.4) ∙ n.cost);
        new = ap (λ (q : Row). cost_in table (find_class g.found q.source)) (sym h.4) ∙ n.new;
      }

  -- nothing waits in the end
  pub making-finished : (table : List (TableEntry C)) (lacking : List ℕ) → IsMaking form order g v k table [] lacking → IsFinished g k table
  making-finished table lacking m r y n = let h = candidate-filed table r y n in Contains-nil (h.class, y) (m.has h.class y h.cost h.new)

  module _ (total : IsTotalOrder cmp) (first_total : IsTotalOrder order) (same_form : (a b : L) → form a ≡ form b → order a b ≡ Equal)
      (table : List (TableEntry C)) (next : Candidate L C) (queue : List (Candidate L C)) (lacking : List ℕ) (turn : IsTurn form order g v cmp weight table next queue lacking)
      (key : Form) (names : List (ℕ × ℕ)) (filed : filed_of v next.source.0 ≡ Some (key, names)) (new : cost_in table (find_class g.found next.source.0) ≡ None) where
    abbrev i : ℕ
    i = next.source.0

    abbrev x : C
    x = next.cost.0

    abbrev entry : TableEntry C
    entry = record { class = find_class g.found i; cost = x; row = row_of_entry (key, (i, names)) }

    here : IsCandidateFor form k table v i next
    here = turn.making.each next (contains_head next queue)

    entered : CanEnterTable C g k table entry
    entered = record {
      class = refl;
      candidate = record {
        filed = subst (λ l. Contains l (row_of_entry (key, (i, names)))) (sym rows) (row-filed v i key names filed);
        new = new;
        cost = row-cost cmp weight table v i key names filed ∙ here.cost;
      };
    }

    -- the candidate of a row that can enter
    record IsWaiting (r : Row) (y : C) : Type 0 where
      row : IsFiledCandidate table r y
      waits : Candidate L C
      there : Contains (next ∷ queue) waits
      source : waits.source.0 ≡ row.class
      cost : waits.cost.0 ≡ y

    waiting : (r : Row) (y : C) → IsCandidate C g k table r y → IsWaiting r y
    waiting r y n =
        let h = candidate-filed table r y n in
        let w = Contains-of_map pair_of (next ∷ queue) (h.class, y) (turn.making.has h.class y h.cost h.new) in
        record { row = h; waits = w.0; there = w.1; source = ap (λ (p : ℕ × C). p.0) w.2; cost = ap (λ (p : ℕ × C). p.1) w.2 }

    least : IsLeast g k table x
    least r y n = let w = waiting r y n in subst (λ z. AtMost k x z) w.cost (least-popped order cmp total weight next w.waits (turn.first w.waits w.there))

    -- the children of a filed row are those of what is filed
    row-classes : (f : Form) (j : ℕ) (m : List (ℕ × ℕ)) → filed_of v j ≡ Some (f, m) → child_classes (row_of_entry (f, (j, m))).shape.args ≡ children_of v j
    row-classes f j m h = row-children (f, (j, m)) ∙ ap filing_children (sym h)

    ties : BreaksTies g k (comes_first form order v) table entry
    ties r y n class le over =
        let w = waiting r y n in
        let c = w.waits in
        let at = turn.making.each c w.there in
        let classes : child_classes r.shape.args ≡ children_of v c.source.0 =
        ap (λ (q : Row). child_classes q.shape.args) w.row.is ∙ (row-classes w.row.key w.row.class w.row.names w.row.filed ∙ ap (children_of v) (sym w.source)) in
        let cheaper : IsOverCheaper k table (children_of v c.source.0) c.cost.0 = subst (λ z. IsOverCheaper k table (children_of v c.source.0) z) (sym w.cost) (subst (λ cs. IsOverCheaper k table cs y) classes over) in
        let h = first-tied order first_total cmp next c (turn.first c w.there) (subst (λ z. AtMost k z x) (sym w.cost) le) (at.cheaper.1 cheaper) in (
          subst (λ cs. IsOverCheaper k table cs x) (sym (row-classes key i names filed)) (here.cheaper.0 h.0),
          λ a b p q.
              let source : r.source ≡ c.source.0 = ap (λ (z : Row). z.source) w.row.is ∙ sym w.source in
              alike-order order first_total cmp form same_form a b next.key.0.now c.key.0.now (key-same v i (form a) (form next.key.0.now) p here.key)
              (key-same v c.source.0 (form b) (form c.key.0.now) (subst (λ j. HasKey v j (form b)) source q) at.key) h.1,
        )

    -- what had a cost keeps it
    cost-kept : (j : ℕ) (y : C) → filed_cost k table v j ≡ Some y → filed_cost k (entry ∷ table) v j ≡ Some y
    cost-kept j y h =
        let a : HasFiledCost k table v j y = has-cost k table v j y h in
        let f = a.filing in
        sym (row-cost cmp weight (entry ∷ table) v j f.0 f.1 a.filed)
        ∙ row-kept g k entry table new (row_of_entry (f.0, (j, f.1))) y (row-cost cmp weight table v j f.0 f.1 a.filed ∙ h)

    -- and so does a candidate
    candidate-kept : (j : ℕ) (c : Candidate L C) → IsCandidateFor form k table v j c → IsCandidateFor form k (entry ∷ table) v j c
    candidate-kept j c h =
        let a : HasFiledCost k table v j c.cost.0 = has-cost k table v j c.cost.0 h.cost in
        record {
          source = h.source;
          key = h.key;
          cost = cost-kept j c.cost.0 h.cost;
          cheaper = (λ t. cheaper-kept k entry table new (children_of v j) a.costs a.there c.cost.0 (h.cheaper.0 t), λ o. h.cheaper.1 (cheaper-before k entry table new (children_of v j) c.cost.0 o));
        }

    module _ (users : List (List ℕ)) (are : AreUsers v users) (within : find_class g.found i < length v) where
      abbrev us : List ℕ
      us = slice_index_or users (find_class g.found i) []

      counted : (s : ℕ) → missing (entry ∷ table) (children_of v s) + times s us ≡ slice_index_or lacking s 0
      counted s =
          let a : missing (entry ∷ table) (children_of v s) + times entry.class (children_of v s) ≡ missing table (children_of v s) = missing-entered entry table new (children_of v s) in
          let b : times s us ≡ times (find_class g.found i) (children_of v s) = are.each (find_class g.found i) s within in
          let m : slice_index_or lacking s 0 ≡ missing table (children_of v s) = turn.making.counts s in
          omega arith

      -- no row is told more often than it lacks costs
      pub told-within : (s : ℕ) → times s us ≤ slice_index_or lacking s 0
      told-within s = let e : missing (entry ∷ table) (children_of v s) + times s us ≡ slice_index_or lacking s 0 = counted s in omega arith

      module _ (after : List (Candidate L C)) (counts : List ℕ) (told : Told form k (entry ∷ table) v us lacking counts queue after) where
        counts-after : (s : ℕ) → slice_index_or counts s 0 ≡ missing (entry ∷ table) (children_of v s)
        counts-after s =
            let a : slice_index_or counts s 0 + times s us ≡ slice_index_or lacking s 0 = told.counts s in
            let b : missing (entry ∷ table) (children_of v s) + times s us ≡ slice_index_or lacking s 0 = counted s in
            omega arith

        has-after : (j : ℕ) (y : C) → filed_cost k (entry ∷ table) v j ≡ Some y → cost_in (entry ∷ table) (find_class g.found j) ≡ None → Contains (pairs_of after) (j, y)
        has-after j y h n =
            let a : HasFiledCost k (entry ∷ table) v j y = has-cost k (entry ∷ table) v j y h in
            let zero_left : slice_index_or counts j 0 ≡ 0 = counts-after j ∙ missing-none (entry ∷ table) (children_of v j) a.costs a.there in
            elim (costs-asked entry table (children_of v j) a.costs a.there) [
              | inl old ↦ elim (contains_cases (i, x) (pairs_of queue) (j, y) (turn.making.has j y (cost-by k table v j a.filing a.costs a.filed (old_at a old) ∙ ap Some a.cost) (none-before entry table (find_class g.found j) n))) [
                | inl e ↦ absurd (None-Some x (sym n ∙ cost-here entry table (find_class g.found j) (ap (λ (p : ℕ × C). find_class g.found p.0) (sym e))))
                | inr c ↦ told.kept j y c
              ]
              | inr asked ↦ told.pushed j y (user j asked) zero_left h
            ]
          where
            old_at : (a : HasFiledCost k (entry ∷ table) v j y) → costs_in table (children_of v j) ≡ Some a.costs → costs_in table (key_children a.filing.0) ≡ Some a.costs
            old_at a old = ap (costs_in table) (sym (ap filing_children a.filed)) ∙ old

            user : (j : ℕ) → Contains (children_of v j) entry.class → Contains us j
            user j c = times-contains j us (subst (λ n. 0 < n) (sym (are.each (find_class g.found i) j within)) (times-there entry.class (children_of v j) c))

        pub making-entered : IsMaking form order g v k (entry ∷ table) after counts
        making-entered = record {
          least_first = (entered, least, turn.making.least_first);
          ties = (ties, turn.making.ties);
          each = λ c d. elim (told.from c d) [
            | inl h ↦ candidate-kept c.source.0 c (turn.making.each c (contains_tail next queue c h))
            | inr h ↦ h
          ];
          has = has-after;
          counts = counts-after;
          lists = told.lists ∙ turn.making.lists;
        }
