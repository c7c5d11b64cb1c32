-- Where a class has rows of its cost over children that cost less, the table has the first of them.
use Rattle.std.proofs.Common.{◌≡◌, ℕ, List, [], ◌∷◌, Some, None, sym, ◌∙◌, ap, refl, subst, inl, inr}
use Rattle.std.specs.Prelude.{Contains, option_map}
use Rattle.slotted_lists.proofs.Contained.{contains_cases, Contains-nil}
use Rattle.slotted_lists.proofs.Options.{Some-same}
use Rattle.slotted_model.specs.State.{Row, State, child_classes}
use Rattle.slotted_model.specs.Cost.{CostFunction, AtMost}
use Rattle.slotted_model.specs.Extraction.{IsLawfulFor, TableEntry, cost_in, costs_in, row_cost, row_class, IsLeastFirst, HasCheaperChildren, HasTiesBroken}
use Rattle.slotted_model.proofs.Data.Options.{option_map-some}
use Rattle.slotted_model.proofs.LeastTerms.Tables.{cost-here, cost-kept, costs-each, entry-new, IsEntry, entry, least-in_order, never-falls}
use Rattle.slotted_model.proofs.LeastTerms.Queues.{costs-asked}

module _ {C : Type 0} (g : State) (k : CostFunction C) (law : IsLawfulFor C g k) (comes_first : Row → Row → Type 0) where
  -- a row over cheaper children of the entries before is so in the whole table
  over-kept : (e : TableEntry C) (table : List (TableEntry C)) → cost_in table e.class ≡ None → (r : Row) (z : C) → row_cost k table r ≡ Some z → (x : C) → HasCheaperChildren k table r x → HasCheaperChildren k (e ∷ table) r x
  over-kept e table new r z p x over c i y q =
      let cs : List ℕ = child_classes r.shape.args in
      let costs : (xs : List C) × (costs_in table cs ≡ Some xs) × (k.node_cost r.shape xs ≡ z) = option_map-some (k.node_cost r.shape) (costs_in table cs) z p in
      let there : (w : C) × (cost_in table c ≡ Some w) = costs-each table cs costs.0 costs.1 c i in
      let same : there.0 ≡ y = Some-same there.0 y (sym (cost-kept e table new c there.0 there.1) ∙ q) in
      over c i y (there.1 ∙ ap Some same)

  -- and the other way round
  over-before : (e : TableEntry C) (table : List (TableEntry C)) → cost_in table e.class ≡ None → (r : Row) (x : C) → HasCheaperChildren k (e ∷ table) r x → HasCheaperChildren k table r x
  over-before e table new r x over c i y q = over c i y (cost-kept e table new c y q)

  -- a row over children that cost less than an entry, as all later ones, had its cost before the entry
  cost-before : (e : TableEntry C) (table : List (TableEntry C)) (r : Row) (x : C) → row_cost k (e ∷ table) r ≡ Some x → HasCheaperChildren k (e ∷ table) r x → AtMost k x e.cost → row_cost k table r ≡ Some x
  cost-before e table r x p over le =
      let cs : List ℕ = child_classes r.shape.args in
      let q : (xs : List C) × (costs_in (e ∷ table) cs ≡ Some xs) × (k.node_cost r.shape xs ≡ x) = option_map-some (k.node_cost r.shape) (costs_in (e ∷ table) cs) x p in
      elim (costs-asked e table cs q.0 q.1) [
        | inl h ↦ ap (option_map (k.node_cost r.shape)) h ∙ ap Some q.2
        | inr h ↦ absurd (over e.class h e.cost (cost-here e table e.class refl) le)
      ]

  pub first-of_ties : (table : List (TableEntry C)) → IsLeastFirst g k table → HasTiesBroken g k comes_first table → (e : TableEntry C) → Contains table e →
      (r : Row) → Contains g.rows r → row_class g r ≡ e.class → (x : C) → row_cost k table r ≡ Some x → AtMost k x e.cost → HasCheaperChildren k table r x → HasCheaperChildren k table e.row e.cost × comes_first e.row r
  first-of_ties [] h t e c r f s x p le over = absurd (Contains-nil e c)
  first-of_ties (d ∷ table) h t e c r f s x p le over = elim (contains_cases d table e c) [
    | inl q ↦
        let new : cost_in table d.class ≡ None = entry-new g k d table h.0 in
        let low : AtMost k x d.cost = subst (λ (z : TableEntry C). AtMost k x z.cost) q le in
        let before : row_cost k table r ≡ Some x = cost-before d table r x p over low in
        let class : row_class g r ≡ d.class = s ∙ ap (λ (z : TableEntry C). z.class) q in
        let first : HasCheaperChildren k table d.row d.cost × comes_first d.row r =
        t.0 r x (record { filed = f; new = ap (cost_in table) class ∙ new; cost = before }) class low (over-before d table new r x over) in
        subst (λ (z : TableEntry C). HasCheaperChildren k (d ∷ table) z.row z.cost × comes_first z.row r) (sym q) (over-kept d table new d.row d.cost h.0.candidate.cost d.cost first.0, first.1)
    | inr i ↦
        let new : cost_in table d.class ≡ None = entry-new g k d table h.0 in
        let is : IsEntry C g k table e = entry g k table (least-in_order g k table h.2) e i in
        let low : AtMost k x d.cost = law.transitive x e.cost d.cost le (never-falls g k law table d h e.class e.cost is.cost) in
        let before : row_cost k table r ≡ Some x = cost-before d table r x p over low in
        let first : HasCheaperChildren k table e.row e.cost × comes_first e.row r = first-of_ties table h.2 t.1 e i r f s x before le (over-before d table new r x over) in
        (over-kept d table new e.row e.cost is.row e.cost first.0, first.1)
  ]
