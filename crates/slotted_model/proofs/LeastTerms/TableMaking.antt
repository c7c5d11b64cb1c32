-- A table can be made, least first, to the end.
use Rattle.std.proofs.Common.{◌≡◌, ℕ, zero, suc, ◌<◌, ◌≤◌, List, [], ◌∷◌, Option, Some, None, sym, ◌∙◌, ap, refl, subst, arith, inl, inr, ◌⊎◌}
use Rattle.std.specs.Prelude.{◌≢◌, Contains, cond, is_some}
use Rattle.std.proofs.lemmas.Bool.{cases_eq}
use Rattle.slotted_lists.proofs.Contained.{contains_head, contains_tail, contains_cases, Contains-nil}
use Rattle.slotted_lists.proofs.Options.{Some-same}
use Rattle.slotted_model.specs.State.{Row, State}
use Rattle.slotted_model.specs.Cost.{CostFunction, AtMost, IsTotal}
use Rattle.slotted_model.specs.Extraction.{IsLawfulFor, TableEntry, cost_in, row_cost, row_class, IsCandidate, IsLeastFirst, IsFinished}
use Rattle.slotted_model.proofs.Data.Options.{None-Some}
use Rattle.slotted_model.proofs.LeastTerms.Tables.{cost-here, cost-later}

module _ {C : Type 0} (g : State) (k : CostFunction C) (law : IsLawfulFor C g k) (total : IsTotal k) where
  -- a candidate among the rows that costs least among them
  record Least (table : List (TableEntry C)) (rows : List Row) : Type 0 where
    row : Row
    cost : C
    candidate : IsCandidate C g k table row cost
    least : (r : Row) (x : C) → Contains rows r → IsCandidate C g k table r x → AtMost k cost x

  abbrev None_of : List (TableEntry C) → List Row → Type 0
  None_of table rows = (r : Row) (x : C) → Contains rows r → ¬ IsCandidate C g k table r x

  -- a row can enter or not
  candidate-or_not : (table : List (TableEntry C)) (r : Row) → Contains g.rows r → ((x : C) × IsCandidate C g k table r x) ⊎ ((x : C) → ¬ IsCandidate C g k table r x)
  candidate-or_not table r f = go (cost_in table (row_class g r)) (row_cost k table r) refl refl
    where
      go : (o c : Option C) → cost_in table (row_class g r) ≡ o → row_cost k table r ≡ c → ((x : C) × IsCandidate C g k table r x) ⊎ ((x : C) → ¬ IsCandidate C g k table r x)
      go None (Some x) p q = inl (x, record { filed = f; new = p; cost = q })
      go None None p q = inr (λ x n. None-Some x (sym q ∙ n.cost))
      go (Some y) c p q = inr (λ x n. None-Some y (sym n.new ∙ p))

  one_cost : (table : List (TableEntry C)) (r : Row) (x y : C) → IsCandidate C g k table r x → IsCandidate C g k table r y → x ≡ y
  one_cost table r x y n m = Some-same x y (sym n.cost ∙ m.cost)

  least-of : (table : List (TableEntry C)) (rows : List Row) → ((r : Row) → Contains rows r → Contains g.rows r) → Least table rows ⊎ None_of table rows
  least-of table [] f = inr (λ r x c n. Contains-nil r c)
  least-of table (q ∷ rows) f = join (candidate-or_not table q (f q (contains_head q rows))) (least-of table rows (λ r c. f r (contains_tail q rows r c)))
    where
      other : (x : C) → (r : Row) (y : C) → r ≡ q → IsCandidate C g k table r y → IsCandidate C g k table q x → AtMost k x y
      other x r y e n m = subst (AtMost k x) (one_cost table q x y m (subst (λ s. IsCandidate C g k table s y) e n)) (law.reflexive x)

      join : ((x : C) × IsCandidate C g k table q x) ⊎ ((x : C) → ¬ IsCandidate C g k table q x) → Least table rows ⊎ None_of table rows → Least table (q ∷ rows) ⊎ None_of table (q ∷ rows)
      join (inr never) (inr none) = inr (λ r x c n. elim (contains_cases q rows r c) [
        | inl e ↦ never x (subst (λ s. IsCandidate C g k table s x) e n)
        | inr i ↦ none r x i n
      ])
      join (inr never) (inl l) = inl (record {
        row = l.row;
        cost = l.cost;
        candidate = l.candidate;
        least = λ r x c n. elim (contains_cases q rows r c) [
          | inl e ↦ absurd (never x (subst (λ s. IsCandidate C g k table s x) e n))
          | inr i ↦ l.least r x i n
        ];
      })
      join (inl m) (inr none) = inl (record {
        row = q;
        cost = m.0;
        candidate = m.1;
        least = λ r x c n. elim (contains_cases q rows r c) [
          | inl e ↦ other m.0 r x e n m.1
          | inr i ↦ absurd (none r x i n)
        ];
      })
      join (inl m) (inl l) = elim (total m.0 l.cost) [
        | inl le ↦ inl (record {
          row = q;
          cost = m.0;
          candidate = m.1;
          least = λ r x c n. elim (contains_cases q rows r c) [
            | inl e ↦ other m.0 r x e n m.1
            | inr i ↦ law.transitive m.0 l.cost x le (l.least r x i n)
          ];
        })
        | inr ge ↦ inl (record {
          row = l.row;
          cost = l.cost;
          candidate = l.candidate;
          least = λ r x c n. elim (contains_cases q rows r c) [
            | inl e ↦ law.transitive l.cost m.0 x ge (other m.0 r x e n m.1)
            | inr i ↦ l.least r x i n
          ];
        })
      ]

  -- how many rows are of classes that are not in the table
  abbrev still : List (TableEntry C) → List Row → ℕ
  still table [] = 0
  still table (r ∷ rows) = cond (is_some (cost_in table (row_class g r))) (still table rows) (suc (still table rows))

  still-in : (table : List (TableEntry C)) (r : Row) (rows : List Row) (x : C) → cost_in table (row_class g r) ≡ Some x → still table (r ∷ rows) ≡ still table rows
  still-in table r rows x p = ap (λ (o : Option C). cond (is_some o) (still table rows) (suc (still table rows))) p

  still-out : (table : List (TableEntry C)) (r : Row) (rows : List Row) → cost_in table (row_class g r) ≡ None → still table (r ∷ rows) ≡ suc (still table rows)
  still-out table r rows p = ap (λ (o : Option C). cond (is_some o) (still table rows) (suc (still table rows))) p

  -- an entry makes them no more, and one less if it is new and a row is of its class
  still-falls : (e : TableEntry C) (table : List (TableEntry C)) → cost_in table e.class ≡ None → (rows : List Row) →
      (still (e ∷ table) rows ≤ still table rows) × ((r : Row) → Contains rows r → row_class g r ≡ e.class → still (e ∷ table) rows < still table rows)
  still-falls e table new [] = (omega arith, λ r c s. absurd (Contains-nil r c))
  still-falls e table new (q ∷ rows) = elim (cases_eq e.class (row_class g q)) [
    | inl s ↦
        let now : still (e ∷ table) (q ∷ rows) ≡ still (e ∷ table) rows = still-in (e ∷ table) q rows e.cost (cost-here e table (row_class g q) s) in
        let then : still table (q ∷ rows) ≡ suc (still table rows) = still-out table q rows (ap (cost_in table) (sym s) ∙ new) in
        let h = still-falls e table new rows in
        let le : still (e ∷ table) rows ≤ still table rows = h.0 in
        (omega arith, λ r c t. omega arith)
    | inr n ↦ go (cost_in table (row_class g q)) refl n (still-falls e table new rows)
  ]
    where
      go : (o : Option C) → cost_in table (row_class g q) ≡ o → e.class ≢ row_class g q →
          (still (e ∷ table) rows ≤ still table rows) × ((r : Row) → Contains rows r → row_class g r ≡ e.class → still (e ∷ table) rows < still table rows) →
          (still (e ∷ table) (q ∷ rows) ≤ still table (q ∷ rows)) × ((r : Row) → Contains (q ∷ rows) r → row_class g r ≡ e.class → still (e ∷ table) (q ∷ rows) < still table (q ∷ rows))
      go None p n h =
          let now : still (e ∷ table) (q ∷ rows) ≡ suc (still (e ∷ table) rows) = still-out (e ∷ table) q rows (cost-later e table (row_class g q) n ∙ p) in
          let then : still table (q ∷ rows) ≡ suc (still table rows) = still-out table q rows p in
          let le : still (e ∷ table) rows ≤ still table rows = h.0 in (
            omega arith,
            λ r c t. elim (contains_cases q rows r c) [
              | inl s ↦ absurd (n (sym t ∙ ap (row_class g) s))
              | inr i ↦ let lt : still (e ∷ table) rows < still table rows = h.1 r i t in omega arith
            ],
          )
      go (Some x) p n h =
          let now : still (e ∷ table) (q ∷ rows) ≡ still (e ∷ table) rows = still-in (e ∷ table) q rows x (cost-later e table (row_class g q) n ∙ p) in
          let then : still table (q ∷ rows) ≡ still table rows = still-in table q rows x p in
          let le : still (e ∷ table) rows ≤ still table rows = h.0 in (
            omega arith,
            λ r c t. elim (contains_cases q rows r c) [
              | inl s ↦ absurd (n (sym t ∙ ap (row_class g) s))
              | inr i ↦ let lt : still (e ∷ table) rows < still table rows = h.1 r i t in omega arith
            ],
          )

  make-from : (n : ℕ) (table : List (TableEntry C)) → IsLeastFirst g k table → still table g.rows < n → (made : List (TableEntry C)) × IsLeastFirst g k made × IsFinished g k made
  make-from zero table h b = absurd (omega arith)
  make-from (suc n) table h b = elim (least-of table g.rows (λ r c. c)) [
    | inr none ↦ (table, h, λ r x m. none r x m.filed m)
    | inl l ↦
        let e : TableEntry C = record { class = row_class g l.row; cost = l.cost; row = l.row } in
        let falls : still (e ∷ table) g.rows < still table g.rows = (still-falls e table l.candidate.new g.rows).1 l.row l.candidate.filed refl in
        make-from n (e ∷ table) (record { class = refl; candidate = l.candidate }, λ r x m. l.least r x m.filed m, h) (omega arith)
  ]

  -- a table can be made
  pub made : (table : List (TableEntry C)) × IsLeastFirst g k table × IsFinished g k table
  made = make-from (suc (still [] g.rows)) [] tt (omega arith)
