-- A queue of rows: its least member can enter the table, and the parents of what entered are all that has to be added.
use Rattle.std.proofs.Common.{◌≡◌, ℕ, List, [], ◌∷◌, Some, None, sym, ◌∙◌, ap, refl, subst, inl, inr, ◌⊎◌}
use Rattle.std.specs.Prelude.{◌≢◌, Contains, option_map}
use Rattle.std.proofs.lemmas.Bool.{cases_eq}
use Rattle.slotted_lists.proofs.Contained.{contains_head, contains_tail, contains_cases, Contains-nil}
use Rattle.slotted_model.specs.State.{Row, State, child_classes}
use Rattle.slotted_model.specs.Cost.{CostFunction, AtMost}
use Rattle.slotted_model.specs.Extraction.{TableEntry, cost_in, costs_in, row_cost, row_class, IsCandidate, CanEnterTable, IsLeast, HasCheaperChildren, BreaksTies, IsFinished, IsQueue, QueueAfter}
use Rattle.slotted_model.proofs.Data.Options.{option_map-some, both-some, None-Some}
use Rattle.slotted_model.proofs.LeastTerms.Tables.{row-kept, entry-new, cost-here, cost-later, none-before, costs-by}

-- costs that an entry helps to give were there before it, or its class is asked for
pub costs-asked : {C : Type 0} (e : TableEntry C) (table : List (TableEntry C)) (cs : List ℕ) (xs : List C) → costs_in (e ∷ table) cs ≡ Some xs → (costs_in table cs ≡ Some xs) ⊎ Contains cs e.class
costs-asked e table [] xs p = inl p
costs-asked {C} e table (c ∷ cs) xs p =
    let r : (y : C) × (ys : List C) × (cost_in (e ∷ table) c ≡ Some y) × (costs_in (e ∷ table) cs ≡ Some ys) × (◌≡◌ {A = List C} (y ∷ ys) xs) =
    both-some (λ y ys. y ∷ ys) (cost_in (e ∷ table) c) (costs_in (e ∷ table) cs) xs p in
    elim (cases_eq e.class c) [
      | inl q ↦ inr (subst (Contains (c ∷ cs)) (sym q) (contains_head c cs))
      | inr n ↦ elim (costs-asked e table cs r.1 r.3) [
        | inl h ↦ inl (costs-by table c cs r.0 r.1 (sym (cost-later e table c n) ∙ r.2) h ∙ ap Some r.4)
        | inr h ↦ inr (contains_tail c cs e.class h)
      ]
    ]

module _ {C : Type 0} (g : State) (k : CostFunction C) (table : List (TableEntry C)) where
  -- a least member of a queue whose class is not in the table enters
  pub popped-enters : (queue : List (Row × C)) → IsQueue C g k table queue → (r : Row) (x : C) → Contains queue (r, x) → ((q : Row) (y : C) → Contains queue (q, y) → AtMost k x y) → cost_in table (row_class g r) ≡ None →
      CanEnterTable C g k table (record { class = row_class g r; cost = x; row = r }) × IsLeast g k table x
  popped-enters queue is r x c least new = (
    record { class = refl; candidate = record { filed = (is.each r x c).0; new = new; cost = (is.each r x c).1 } },
    λ q y n. least q y (is.has q y n),
  )

  -- after it the queue needs its parents
  pub queue-after : (e : TableEntry C) (before after : List (Row × C)) → CanEnterTable C g k table e → IsQueue C g k table before → QueueAfter C g k table e before after → IsQueue C g k (e ∷ table) after
  queue-after e before after enters is more = record { each = each; has = has }
    where
      each : (r : Row) (x : C) → Contains after (r, x) → Contains g.rows r × (row_cost k (e ∷ table) r ≡ Some x)
      each r x c = elim (more.from r x c) [
        | inl b ↦ ((is.each r x b).0, row-kept g k e table (entry-new g k e table enters) r x (is.each r x b).1)
        | inr p ↦ p
      ]

      has : (r : Row) (x : C) → IsCandidate C g k (e ∷ table) r x → Contains after (r, x)
      has r x n =
          let cs : List ℕ = child_classes r.shape.args in
          let q : (xs : List C) × (costs_in (e ∷ table) cs ≡ Some xs) × (k.node_cost r.shape xs ≡ x) = option_map-some (k.node_cost r.shape) (costs_in (e ∷ table) cs) x n.cost in
          let other : row_class g r ≢ e.class = λ s. None-Some e.cost (sym n.new ∙ cost-here e table (row_class g r) (sym s)) in
          elim (costs-asked e table cs q.0 q.1) [
            | inl h ↦ more.kept r x (is.has r x (record { filed = n.filed; new = none-before e table (row_class g r) n.new; cost = ap (option_map (k.node_cost r.shape)) h ∙ ap Some q.2 })) other
            | inr h ↦ more.parents r x n.filed h n.cost other
          ]

  -- if it was chosen so, ties are broken
  pub queue-breaks_ties : (queue : List (Row × C)) → IsQueue C g k table queue → (comes_first : Row → Row → Type 0) (r : Row) (x : C) →
      ((q : Row) (y : C) → Contains queue (q, y) → row_class g q ≡ row_class g r → AtMost k y x → HasCheaperChildren k table q y → HasCheaperChildren k table r x × comes_first r q) →
      BreaksTies g k comes_first table (record { class = row_class g r; cost = x; row = r })
  queue-breaks_ties queue is comes_first r x chosen q y n class le over = chosen q y (is.has q y n) class le over

  -- a member whose class is in the table can be passed over
  pub passed_over : (r : Row) (x y : C) (queue : List (Row × C)) → IsQueue C g k table ((r, x) ∷ queue) → cost_in table (row_class g r) ≡ Some y → IsQueue C g k table queue
  passed_over r x y queue is there = record {
    each = λ q z c. is.each q z (contains_tail (r, x) queue (q, z) c);
    has = λ q z n. elim (contains_cases (r, x) queue (q, z) (is.has q z n)) [
      | inl s ↦ absurd (None-Some y (sym n.new ∙ (ap (λ (p : Row × C). cost_in table (row_class g p.0)) s ∙ there)))
      | inr c ↦ c
    ];
  }

  -- an empty queue is the end
  pub empty-finished : IsQueue C g k table [] → IsFinished g k table
  empty-finished is r x n = Contains-nil (r, x) (is.has r x n)
