-- Entries that entered a table in order: each class once, and each child before what stands over it.
use Rattle.std.proofs.Common.{◌≡◌, ◌<◌, ◌∙◌, ℕ, zero, suc, List, [], ◌∷◌, Some, take, refl, ap, sym, subst, inl, inr, arith}
use Rattle.std.specs.Prelude.{◌⊎◌, Contains, slice_get}
use Rattle.std.proofs.lemmas.Bool.{cases_eq, cases_lt}
use Rattle.std.proofs.lemmas.Option.{slice_get-map}
use Rattle.slotted_lists.proofs.Contained.{contains_head, contains_tail}
use Rattle.slotted_lists.proofs.Options.{Some-same}
use Rattle.slotted_nodes.specs.Form.{Form}
use Rattle.slotted_model.specs.Cost.{CostFunction}
use Rattle.slotted_model.specs.State.{State, child_classes}
use Rattle.slotted_model.specs.Extraction.{CanEnterTable, IsInOrder, TableEntry, cost_in, costs_in}
use Rattle.slotted_model.proofs.Data.Options.{None-Some, option_map-some}
use Rattle.slotted_model.proofs.LeastTerms.Tables.{cost-here, cost-later, costs-each, entry-new}
use Rattle.slotted_hashcons.specs.FiledRows.{key_children}
use Rattle.slotted_hashcons.proofs.FiledRows.{row-children}
use Rattle.slotted_hashcons.proofs.Places.{at-take}
use Rattle.slotted_costs.specs.Entries.{classes_in, entry_of, table_after, table_of}
use Rattle.slotted_costs.specs.declared.entry.CostEntry.{CostEntry}
use Rattle.slotted_graph.specs.Placing.{ClassesDiffer}

within-take : {X : Type 0} (n : ℕ) (xs : List X) (j : ℕ) (x : X) → slice_get (take n xs) j ≡ Some x → (j < n) × (slice_get xs j ≡ Some x)
within-take zero xs j x at = absurd (None-Some x at)
within-take (suc n) [] j x at = absurd (None-Some x at)
within-take (suc n) (y ∷ xs) zero x at = (omega arith, at)
within-take (suc n) (y ∷ xs) (suc j) x at = let r = within-take n xs j x at in (omega (arith, r.0), r.1)

module _ {L C : Type 0} (form : L → Form) where
  -- a class that has a cost keeps one
  cost-stays : (es : List (CostEntry L C)) (table : List (TableEntry C)) (c : ℕ) (x : C) → cost_in table c ≡ Some x → (y : C) × (cost_in (table_after form es table) c ≡ Some y)
  cost-stays [] table c x h = (x, h)
  cost-stays (d ∷ es) table c x h = elim (cases_eq d.class c) [
    | inl q ↦ cost-stays es (entry_of form d ∷ table) c d.cost (cost-here (entry_of form d) table c q)
    | inr n ↦ cost-stays es (entry_of form d ∷ table) c x (cost-later (entry_of form d) table c n ∙ h)
  ]

  cost-there : (es : List (CostEntry L C)) (table : List (TableEntry C)) (i : ℕ) (d : CostEntry L C) → slice_get es i ≡ Some d → (y : C) × (cost_in (table_after form es table) d.class ≡ Some y)
  cost-there [] table i d at = absurd (None-Some d at)
  cost-there (e ∷ es) table zero d at = cost-stays es (entry_of form e ∷ table) d.class e.cost (cost-here (entry_of form e) table d.class (ap (λ (x : CostEntry L C). x.class) (Some-same e d at)))
  cost-there (e ∷ es) table (suc i) d at = cost-there es (entry_of form e ∷ table) i d at

  -- an entry of this class
  pub record HasEntry (es : List (CostEntry L C)) (c : ℕ) : Type 0 where
    pub place : ℕ
    pub entry : CostEntry L C
    pub there : slice_get es place ≡ Some entry
    pub class : entry.class ≡ c

  -- a cost is one of an entry
  cost-from : (es : List (CostEntry L C)) (table : List (TableEntry C)) (c : ℕ) (x : C) → cost_in (table_after form es table) c ≡ Some x → HasEntry es c ⊎ (cost_in table c ≡ Some x)
  cost-from [] table c x h = inr h
  cost-from (d ∷ es) table c x h = elim (cost-from es (entry_of form d ∷ table) c x h) [
    | inl r ↦ inl (record { place = suc r.place; entry = r.entry; there = r.there; class = r.class })
    | inr l ↦ elim (cases_eq d.class c) [
      | inl q ↦ inl (record { place = 0; entry = d; there = refl; class = q })
      | inr n ↦ inr (sym (cost-later (entry_of form d) table c n) ∙ l)
    ]
  ]

  pub entry-stays : (es : List (CostEntry L C)) (table : List (TableEntry C)) (e : TableEntry C) → Contains table e → Contains (table_after form es table) e
  entry-stays [] table e h = h
  entry-stays (d ∷ es) table e h = entry-stays es (entry_of form d ∷ table) e (contains_tail (entry_of form d) table e h)

  -- each stands in the table
  pub entry-there : (es : List (CostEntry L C)) (table : List (TableEntry C)) (i : ℕ) (d : CostEntry L C) → slice_get es i ≡ Some d → Contains (table_after form es table) (entry_of form d)
  entry-there [] table i d at = absurd (None-Some d at)
  entry-there (e ∷ es) table zero d at = subst (λ x. Contains (table_after form es (entry_of form e ∷ table)) (entry_of form x)) (Some-same e d at) (entry-stays es (entry_of form e ∷ table) (entry_of form e) (contains_head (entry_of form e) table))
  entry-there (e ∷ es) table (suc i) d at = entry-there es (entry_of form e ∷ table) i d at

  module _ (g : State) (k : CostFunction C) where
    order-before : (es : List (CostEntry L C)) (table : List (TableEntry C)) → IsInOrder g k (table_after form es table) → IsInOrder g k table
    order-before [] table h = h
    order-before (d ∷ es) table h = (order-before es (entry_of form d ∷ table) h).1

    -- it could enter the table of those before it
    entered-at : (es : List (CostEntry L C)) (table : List (TableEntry C)) → IsInOrder g k (table_after form es table) → (i : ℕ) (e : CostEntry L C) → slice_get es i ≡ Some e → CanEnterTable C g k (table_after form (take i es) table) (entry_of form e)
    entered-at [] table h i e at = absurd (None-Some e at)
    entered-at (d ∷ es) table h zero e at = subst (λ x. CanEnterTable C g k table (entry_of form x)) (Some-same d e at) (order-before es (entry_of form d ∷ table) h).0
    entered-at (d ∷ es) table h (suc i) e at = entered-at es (entry_of form d ∷ table) h i e at

    module _ (es : List (CostEntry L C)) (in_order : IsInOrder g k (table_of form es)) where
      pub entered : (i : ℕ) (e : CostEntry L C) → slice_get es i ≡ Some e → CanEnterTable C g k (table_of form (take i es)) (entry_of form e)
      entered i e at = entered-at es [] in_order i e at

      differs-before : (i j : ℕ) (d e : CostEntry L C) → slice_get es i ≡ Some d → slice_get es j ≡ Some e → d.class ≡ e.class → i < j → ⊥
      differs-before i j d e here there same lt =
          let y = cost-there (take j es) [] i d (at-take j es i lt ∙ here) in
          None-Some y.0 (sym (entry-new g k (entry_of form e) (table_of form (take j es)) (entered j e there)) ∙ (ap (cost_in (table_of form (take j es))) (sym same) ∙ y.1))

      -- each class entered once
      pub classes-differ : ClassesDiffer es
      classes-differ i j d e here there same = elim (cases_lt i j) [
        | inl lt ↦ absurd (differs-before i j d e here there same lt)
        | inr le ↦ elim (cases_lt j i) [
          | inl lt ↦ absurd (differs-before j i e d there here (sym same) lt)
          | inr ge ↦ omega (arith, le, ge)
        ]
      ]

      -- a child entered earlier
      pub child-before_it : (i : ℕ) (e : CostEntry L C) → slice_get es i ≡ Some e → (c : ℕ) → Contains (key_children (form e.node)) c → (r : HasEntry es c) × (r.place < i)
      child-before_it i e at c child =
          let older : List (TableEntry C) = table_of form (take i es) in
          let row = (entry_of form e).row in
          let h = entered i e at in
          let xs = option_map-some (k.node_cost row.shape) (costs_in older (child_classes row.shape.args)) e.cost h.candidate.cost in
          let here : Contains (child_classes row.shape.args) c = subst (λ cs. Contains cs c) (sym (row-children (form e.node, (e.source, e.names)))) child in
          let y = costs-each older (child_classes row.shape.args) xs.0 xs.1 c here in
          elim (cost-from (take i es) [] c y.0 y.1) [
            | inl r ↦ let w = within-take i es r.place r.entry r.there in (record { place = r.place; entry = r.entry; there = w.1; class = r.class }, w.0)
            | inr none ↦ absurd (None-Some y.0 none)
          ]

      -- the place of a class is the only one that lists it
      pub listed-once : (p : ℕ) (e : CostEntry L C) → slice_get es p ≡ Some e → (q : ℕ) → slice_get (classes_in es) q ≡ Some e.class → q ≡ p
      listed-once p e at q listed =
          let d = option_map-some (λ (x : CostEntry L C). x.class) (slice_get es q) e.class (sym (slice_get-map (λ (x : CostEntry L C). x.class) es q) ∙ listed) in
          classes-differ q p d.0 e d.1 at d.2
