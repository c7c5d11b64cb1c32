-- Tables of costs: what an entry adds, and what holds of a table whose entries entered least first.
use Rattle.std.proofs.Common.{◌≡◌, ℕ, List, [], ◌∷◌, ◌++◌, Some, None, length, sym, ◌∙◌, ap, refl, subst, arith, inl, inr, ◌⊎◌}
use Rattle.std.specs.Prelude.{◌≢◌, Contains, cond, option_map}
use Rattle.std.proofs.lemmas.Bool.{cases_eq, eq-eqb, ne_eqb}
use Rattle.slotted_lists.proofs.Contained.{contains_head, contains_tail, contains_cases, Contains-nil}
use Rattle.slotted_lists.proofs.Options.{Some-same}
use Rattle.slotted_model.specs.LookUp.{both}
use Rattle.slotted_model.specs.State.{Row, State, child_classes}
use Rattle.slotted_model.specs.Cost.{CostFunction, AtMost, child_count}
use Rattle.slotted_model.specs.Extraction.{IsLawfulFor, TableEntry, cost_in, costs_in, row_cost, row_class, CanEnterTable, IsInOrder, IsLeastFirst}
use Rattle.slotted_model.proofs.Data.Options.{option_map-some, both-some, None-Some}
use Rattle.slotted_model.proofs.LeastTerms.Costs.{child_classes-count}

module _ {C : Type 0} where
  pub cost-here : (e : TableEntry C) (table : List (TableEntry C)) (c : ℕ) → e.class ≡ c → cost_in (e ∷ table) c ≡ Some e.cost
  cost-here e table c p = ap (λ b. cond b (Some e.cost) (cost_in table c)) (eq-eqb e.class c p)

  pub cost-later : (e : TableEntry C) (table : List (TableEntry C)) (c : ℕ) → e.class ≢ c → cost_in (e ∷ table) c ≡ cost_in table c
  cost-later e table c n = ap (λ b. cond b (Some e.cost) (cost_in table c)) (ne_eqb e.class c n)

  -- an entry of a new class leaves the costs of the others
  pub cost-kept : (e : TableEntry C) (table : List (TableEntry C)) → cost_in table e.class ≡ None → (c : ℕ) (x : C) → cost_in table c ≡ Some x → cost_in (e ∷ table) c ≡ Some x
  cost-kept e table new c x p = elim (cases_eq e.class c) [
    | inl q ↦ absurd (None-Some x (sym new ∙ (ap (cost_in table) q ∙ p)))
    | inr n ↦ cost-later e table c n ∙ p
  ]

  pub none-before : (e : TableEntry C) (table : List (TableEntry C)) (c : ℕ) → cost_in (e ∷ table) c ≡ None → cost_in table c ≡ None
  none-before e table c p = elim (cases_eq e.class c) [
    | inl q ↦ absurd (None-Some e.cost (sym p ∙ cost-here e table c q))
    | inr n ↦ sym (cost-later e table c n) ∙ p
  ]

  pub costs-by : (table : List (TableEntry C)) (c : ℕ) (cs : List ℕ) (x : C) (xs : List C) → cost_in table c ≡ Some x → costs_in table cs ≡ Some xs → costs_in table (c ∷ cs) ≡ Some (x ∷ xs)
  costs-by table c cs x xs p q = λ i. both (λ y ys. y ∷ ys) (p i) (q i)

  costs-kept : (e : TableEntry C) (table : List (TableEntry C)) → cost_in table e.class ≡ None → (cs : List ℕ) (xs : List C) → costs_in table cs ≡ Some xs → costs_in (e ∷ table) cs ≡ Some xs
  costs-kept e table new [] xs p = p
  costs-kept e table new (c ∷ cs) xs p =
      let r : (y : C) × (ys : List C) × (cost_in table c ≡ Some y) × (costs_in table cs ≡ Some ys) × (◌≡◌ {A = List C} (y ∷ ys) xs) = both-some (λ y ys. y ∷ ys) (cost_in table c) (costs_in table cs) xs p in
      costs-by (e ∷ table) c cs r.0 r.1 (cost-kept e table new c r.0 r.2) (costs-kept e table new cs r.1 r.3) ∙ ap Some r.4

  -- costs that an entry helps to give were there before it, or one of them is its own
  costs-split : (e : TableEntry C) (table : List (TableEntry C)) (cs : List ℕ) (xs : List C) → costs_in (e ∷ table) cs ≡ Some xs → (costs_in table cs ≡ Some xs) ⊎ Contains xs e.cost
  costs-split e table [] xs p = inl p
  costs-split e table (c ∷ cs) xs p =
      let r : (y : C) × (ys : List C) × (cost_in (e ∷ table) c ≡ Some y) × (costs_in (e ∷ table) cs ≡ Some ys) × (◌≡◌ {A = List C} (y ∷ ys) xs) =
      both-some (λ y ys. y ∷ ys) (cost_in (e ∷ table) c) (costs_in (e ∷ table) cs) xs p in
      elim (cases_eq e.class c) [
        | inl q ↦
            let s : e.cost ≡ r.0 = Some-same e.cost r.0 (sym (cost-here e table c q) ∙ r.2) in
            inr (subst (λ zs. Contains zs e.cost) r.4 (subst (λ y. Contains (y ∷ r.1) e.cost) s (contains_head e.cost r.1)))
        | inr n ↦ elim (costs-split e table cs r.1 r.3) [
          | inl h ↦ inl (costs-by table c cs r.0 r.1 (sym (cost-later e table c n) ∙ r.2) h ∙ ap Some r.4)
          | inr h ↦ inr (subst (λ zs. Contains zs e.cost) r.4 (contains_tail r.0 r.1 e.cost h))
        ]
      ]

  pub costs-length : (table : List (TableEntry C)) (cs : List ℕ) (xs : List C) → costs_in table cs ≡ Some xs → length xs ≡ length cs
  costs-length table [] xs p = ap (λ (l : List C). length l) (sym (Some-same [] xs p))
  costs-length table (c ∷ cs) xs p =
      let r : (y : C) × (ys : List C) × (cost_in table c ≡ Some y) × (costs_in table cs ≡ Some ys) × (◌≡◌ {A = List C} (y ∷ ys) xs) = both-some (λ y ys. y ∷ ys) (cost_in table c) (costs_in table cs) xs p in
      let e : length r.1 ≡ length cs = costs-length table cs r.1 r.3 in
      let l : length (r.0 ∷ r.1) ≡ length xs = ap (λ (l : List C). length l) r.4 in
      omega arith

  pub costs-there : (table : List (TableEntry C)) (cs : List ℕ) → ((c : ℕ) → Contains cs c → (x : C) × (cost_in table c ≡ Some x)) → (xs : List C) × (costs_in table cs ≡ Some xs)
  costs-there table [] h = ([], refl)
  costs-there table (c ∷ cs) h =
      let x : (x : C) × (cost_in table c ≡ Some x) = h c (contains_head c cs) in
      let xs : (xs : List C) × (costs_in table cs ≡ Some xs) = costs-there table cs (λ b i. h b (contains_tail c cs b i)) in
      (x.0 ∷ xs.0, costs-by table c cs x.0 xs.0 x.1 xs.1)

  pub costs-append : (table : List (TableEntry C)) (cs ds : List ℕ) (xs ys : List C) → costs_in table cs ≡ Some xs → costs_in table ds ≡ Some ys → costs_in table (cs ++ ds) ≡ Some (xs ++ ys)
  costs-append table [] ds xs ys p q = q ∙ ap (λ (l : List C). Some (l ++ ys)) (Some-same [] xs p)
  costs-append table (c ∷ cs) ds xs ys p q =
      let r : (z : C) × (zs : List C) × (cost_in table c ≡ Some z) × (costs_in table cs ≡ Some zs) × (◌≡◌ {A = List C} (z ∷ zs) xs) = both-some (λ z zs. z ∷ zs) (cost_in table c) (costs_in table cs) xs p in
      costs-by table c (cs ++ ds) r.0 (r.1 ++ ys) r.2 (costs-append table cs ds r.1 ys r.3 q) ∙ ap (λ (l : List C). Some (l ++ ys)) r.4

  pub costs-each : (table : List (TableEntry C)) (cs : List ℕ) (xs : List C) → costs_in table cs ≡ Some xs → (c : ℕ) → Contains cs c → (x : C) × (cost_in table c ≡ Some x)
  costs-each table [] xs p c h = absurd (Contains-nil c h)
  costs-each table (b ∷ cs) xs p c h =
      let r : (y : C) × (ys : List C) × (cost_in table b ≡ Some y) × (costs_in table cs ≡ Some ys) × (◌≡◌ {A = List C} (y ∷ ys) xs) = both-some (λ y ys. y ∷ ys) (cost_in table b) (costs_in table cs) xs p in
      elim (contains_cases b cs c h) [
        | inl e ↦ (r.0, ap (cost_in table) e ∙ r.2)
        | inr i ↦ costs-each table cs r.1 r.3 c i
      ]

  -- as many costs as the row has children
  pub row-count : (table : List (TableEntry C)) (r : Row) (xs : List C) → costs_in table (child_classes r.shape.args) ≡ Some xs → length xs ≡ child_count r.shape.args
  row-count table r xs p = costs-length table (child_classes r.shape.args) xs p ∙ child_classes-count r.shape.args

-- an entry of the table
pub record IsEntry (C : Type 0) (g : State) (k : CostFunction C) (table : List (TableEntry C)) (e : TableEntry C) : Type 0 where
  pub filed : Contains g.rows e.row
  pub class : row_class g e.row ≡ e.class
  pub cost : cost_in table e.class ≡ Some e.cost
  pub row : row_cost k table e.row ≡ Some e.cost

module _ {C : Type 0} (g : State) (k : CostFunction C) where
  pub row-kept : (e : TableEntry C) (table : List (TableEntry C)) → cost_in table e.class ≡ None → (r : Row) (x : C) → row_cost k table r ≡ Some x → row_cost k (e ∷ table) r ≡ Some x
  row-kept e table new r x p =
      let q : (xs : List C) × (costs_in table (child_classes r.shape.args) ≡ Some xs) × (k.node_cost r.shape xs ≡ x) = option_map-some (k.node_cost r.shape) (costs_in table (child_classes r.shape.args)) x p in
      ap (option_map (k.node_cost r.shape)) (costs-kept e table new (child_classes r.shape.args) q.0 q.1) ∙ ap Some q.2

  pub entry-new : (e : TableEntry C) (table : List (TableEntry C)) → CanEnterTable C g k table e → cost_in table e.class ≡ None
  entry-new e table h = ap (cost_in table) (sym h.class) ∙ h.candidate.new

  -- each entry keeps its class and the cost of its row
  pub entry : (table : List (TableEntry C)) → IsInOrder g k table → (e : TableEntry C) → Contains table e → IsEntry C g k table e
  entry [] h e c = absurd (Contains-nil e c)
  entry (d ∷ table) h e c = elim (contains_cases d table e c) [
    | inl p ↦ subst (IsEntry C g k (d ∷ table)) (sym p) (record {
      filed = h.0.candidate.filed;
      class = h.0.class;
      cost = cost-here d table d.class refl;
      row = row-kept d table (entry-new d table h.0) d.row d.cost h.0.candidate.cost;
    })
    | inr i ↦
        let r : IsEntry C g k table e = entry table h.1 e i in
        record {
          filed = r.filed;
          class = r.class;
          cost = cost-kept d table (entry-new d table h.0) e.class e.cost r.cost;
          row = row-kept d table (entry-new d table h.0) e.row e.cost r.row;
        }
  ]

  pub least-in_order : (table : List (TableEntry C)) → IsLeastFirst g k table → IsInOrder g k table
  least-in_order [] h = tt
  least-in_order (e ∷ table) h = (h.0, least-in_order table h.2)

  module _ (law : IsLawfulFor C g k) where
    -- a row that an entry helps to give a cost had it before, or costs no less than the entry
    row-split : (e : TableEntry C) (table : List (TableEntry C)) (r : Row) → Contains g.rows r → (x : C) → row_cost k (e ∷ table) r ≡ Some x → (row_cost k table r ≡ Some x) ⊎ AtMost k e.cost x
    row-split e table r c x p =
        let cs : List ℕ = child_classes r.shape.args in
        let q : (xs : List C) × (costs_in (e ∷ table) cs ≡ Some xs) × (k.node_cost r.shape xs ≡ x) = option_map-some (k.node_cost r.shape) (costs_in (e ∷ table) cs) x p in
        elim (costs-split e table cs q.0 q.1) [
          | inl h ↦ inl (ap (option_map (k.node_cost r.shape)) h ∙ ap Some q.2)
          | inr h ↦ inr (subst (AtMost k e.cost) q.2 (law.no_less r.shape q.0 (r, c, refl) (row-count (e ∷ table) r q.0 q.1) e.cost h))
        ]

    -- costs never fall
    pub never-falls : (table : List (TableEntry C)) (e : TableEntry C) → IsLeastFirst g k (e ∷ table) → (c : ℕ) (x : C) → cost_in table c ≡ Some x → AtMost k x e.cost
    never-falls [] e h c x p = absurd (None-Some x p)
    never-falls (d ∷ table) e h c x p =
        let last : AtMost k d.cost e.cost = elim (row-split d table e.row h.0.candidate.filed e.cost h.0.candidate.cost) [
          | inl q ↦ h.2.1 e.row e.cost (record { filed = h.0.candidate.filed; new = none-before d table (row_class g e.row) h.0.candidate.new; cost = q })
          | inr q ↦ q
        ] in
        elim (cases_eq d.class c) [
          | inl q ↦ subst (λ y. AtMost k y e.cost) (Some-same d.cost x (sym (cost-here d table c q) ∙ p)) last
          | inr n ↦ law.transitive x d.cost e.cost (never-falls table d h.2 c x (sym (cost-later d table c n) ∙ p)) last
        ]

    -- no row costs less than its class
    pub least-closed : (table : List (TableEntry C)) → IsLeastFirst g k table → (r : Row) → Contains g.rows r → (x y : C) → row_cost k table r ≡ Some x → cost_in table (row_class g r) ≡ Some y → AtMost k y x
    least-closed [] h r c x y p q = absurd (None-Some y q)
    least-closed (e ∷ table) h r c x y p q = elim (cases_eq e.class (row_class g r)) [
      | inl s ↦
          let same : e.cost ≡ y = Some-same e.cost y (sym (cost-here e table (row_class g r) s) ∙ q) in
          subst (λ z. AtMost k z x) same (elim (row-split e table r c x p) [
            | inl before ↦ h.1 r x (record { filed = c; new = ap (cost_in table) (sym s) ∙ entry-new e table h.0; cost = before })
            | inr m ↦ m
          ])
      | inr n ↦
          let before : cost_in table (row_class g r) ≡ Some y = sym (cost-later e table (row_class g r) n) ∙ q in
          elim (row-split e table r c x p) [
            | inl there ↦ least-closed table h.2 r c x y there before
            | inr m ↦ law.transitive y e.cost x (never-falls table e h (row_class g r) y before) m
          ]
    ]
