-- Tables as the code keeps them: what an entry more changes, and what places tell.
use Rattle.std.proofs.Common.{◌≡◌, ◌<◌, ◌≤◌, ℕ, zero, suc, ◌+◌, List, [], ◌∷◌, ◌++◌, length, map, take, get_or, Option, Some, None, sym, ◌∙◌, ap, refl, subst, inl, inr, arith}
use Rattle.std.specs.Prelude.{◌≢◌, cond, slice_get, option_map, set, Contains, Bool, true, false, if◌then◌else◌}
use Rattle.std.proofs.lemmas.Bool.{cases_eq, eq-eqb, ne_eqb}
use Rattle.std.proofs.lemmas.List.{length-map, map-append, take_more}
use Rattle.std.proofs.lemmas.Option.{slice_get-map, slice_get_within, slice_get_past, slice_get_read}
use Rattle.std.proofs.lemmas.List.Elements.{Contains-get_or}
use Rattle.slotted_lists.proofs.Contained.{Contains-map}
use Rattle.slotted_lists.proofs.Options.{Some-same}
use Rattle.slotted_nodes.specs.Form.{Form}
use Rattle.slotted_model.specs.Extraction.{TableEntry, cost_in, costs_in}
use Rattle.slotted_model.proofs.Data.Options.{None-Some, option_map-some}
use Rattle.slotted_model.proofs.LeastTerms.Tables.{costs-by, costs-append, costs-each}
use Rattle.slotted_hashcons.proofs.Places.{at-append_cases, at-set_same, at-set_other}
use Rattle.slotted_costs.specs.declared.entry.CostEntry.{CostEntry}
use Rattle.slotted_costs.specs.Entries.{entry_of, table_after, table_of, entry_in, classes_in, ArePlaced}

-- an entry tells the cost of its class
pub cost-of_entry : {C : Type 0} (table : List (TableEntry C)) (c : ℕ) → cost_in table c ≡ option_map (λ (e : TableEntry C). e.cost) (entry_in table c)
cost-of_entry [] c = refl
cost-of_entry (e ∷ table) c = elim (cases_eq e.class c) [
  | inl q ↦ ap (λ b. cond b (Some e.cost) (cost_in table c)) (eq-eqb e.class c q) ∙ ap (λ b. option_map (λ e. e.cost) (cond b (Some e) (entry_in table c))) (sym (eq-eqb e.class c q))
  | inr n ↦ ap (λ b. cond b (Some e.cost) (cost_in table c)) (ne_eqb e.class c n) ∙ (cost-of_entry table c ∙ ap (λ b. option_map (λ e. e.cost) (cond b (Some e) (entry_in table c))) (sym (ne_eqb e.class c n)))
]

pub cost-of : {C : Type 0} (table : List (TableEntry C)) (c : ℕ) (o : Option (TableEntry C)) → o ≡ entry_in table c → option_map (λ (e : TableEntry C). e.cost) o ≡ cost_in table c
cost-of table c o h = ap (option_map (λ e. e.cost)) h ∙ sym (cost-of_entry table c)

module _ {L C : Type 0} (form : L → Form) where
  after-append : (es : List (CostEntry L C)) (e : CostEntry L C) (table : List (TableEntry C)) → table_after form (es ++ e ∷ []) table ≡ entry_of form e ∷ table_after form es table
  after-append [] e table = refl
  after-append (d ∷ es) e table = after-append es e (entry_of form d ∷ table)

  -- the entry that enters stands first
  pub table-append : (es : List (CostEntry L C)) (e : CostEntry L C) → table_of form (es ++ e ∷ []) ≡ entry_of form e ∷ table_of form es
  table-append es e = after-append es e []

  none-after : (es : List (CostEntry L C)) (table : List (TableEntry C)) (c : ℕ) → ((p : ℕ) → slice_get (classes_in es) p ≢ Some c) → entry_in (table_after form es table) c ≡ entry_in table c
  none-after [] table c h = refl
  none-after (e ∷ es) table c h =
      none-after es (entry_of form e ∷ table) c (λ p. h (suc p))
      ∙ ap (λ b. cond b (Some (entry_of form e)) (entry_in table c)) (ne_eqb e.class c (λ q. h 0 (ap Some q)))

  -- no entry has the class
  pub entry-none : (es : List (CostEntry L C)) (c : ℕ) → ((p : ℕ) → slice_get (classes_in es) p ≢ Some c) → entry_in (table_of form es) c ≡ None
  entry-none es c h = none-after es [] c h

  -- one entry alone has it
  pub entry-after : (es : List (CostEntry L C)) (table : List (TableEntry C)) (p : ℕ) (e : CostEntry L C) → slice_get es p ≡ Some e → ((q : ℕ) → slice_get (classes_in es) q ≡ Some e.class → q ≡ p) → entry_in (table_after form es table) e.class ≡ Some (entry_of form e)
  entry-after [] table p e at once = cc
  entry-after (d ∷ es) table zero e at once =
      let same : d ≡ e = Some-same d e at in
      none-after es (entry_of form d ∷ table) e.class (λ q h. let z : suc q ≡ 0 = once (suc q) h in omega arith)
      ∙ (ap (λ b. cond b (Some (entry_of form d)) (entry_in table e.class)) (eq-eqb d.class e.class (ap (λ (x : CostEntry L C). x.class) same)) ∙ ap (λ x. Some (entry_of form x)) same)
  entry-after (d ∷ es) table (suc p) e at once =
      entry-after es (entry_of form d ∷ table) p e at (λ q h. let z : suc q ≡ suc p = once (suc q) h in omega arith)

  -- what stands at the place of a class
  pub entry-placed : (es : List (CostEntry L C)) (places : List ℕ) → ArePlaced (classes_in es) places → (c p : ℕ) (e : CostEntry L C) → slice_get places c ≡ Some p → slice_get es p ≡ Some e → e.class ≡ c → entry_in (table_of form es) c ≡ Some (entry_of form e)
  entry-placed es places placed c p e at here same =
      subst (λ d. entry_in (table_of form es) d ≡ Some (entry_of form e)) same
      (entry-after es [] p e here (λ q h. Some-same q p (sym (placed e.class q h) ∙ (ap (slice_get places) same ∙ at))))

  -- nothing stands there
  pub entry-absent : (es : List (CostEntry L C)) (places : List ℕ) → ArePlaced (classes_in es) places → (c : ℕ) → ((p : ℕ) → slice_get places c ≡ Some p → slice_get (classes_in es) p ≢ Some c) → entry_in (table_of form es) c ≡ None
  entry-absent es places placed c h = entry-none es c (λ p at. h p (placed c p at) at)

  -- a class that is listed has an entry
  pub entry-listed : (es : List (CostEntry L C)) (places : List ℕ) → ArePlaced (classes_in es) places → (c p : ℕ) → slice_get (classes_in es) p ≡ Some c → entry_in (table_of form es) c ≢ None
  entry-listed es places placed c p at none =
      let e : (d : CostEntry L C) × (slice_get es p ≡ Some d) × (d.class ≡ c) = option_map-some (λ (d : CostEntry L C). d.class) (slice_get es p) c (sym (slice_get-map (λ (d : CostEntry L C). d.class) es p) ∙ at) in
      None-Some (entry_of form e.0) (sym none ∙ entry-placed es places placed c p e.0 (placed c p at) e.1 e.2)

  -- the place after the last one is that of a class that has no entry
  module _ (es : List (CostEntry L C)) (places : List ℕ) (placed : ArePlaced (classes_in es) places) (e : CostEntry L C) (within : e.class < length places) (new : entry_in (table_of form es) e.class ≡ None) where
    pub placed-same : ArePlaced (classes_in es) (set places e.class (length es))
    placed-same c p at =
        at-set_other places e.class c (length es) (λ q. entry-listed es places placed c p at (ap (entry_in (table_of form es)) q ∙ new)) ∙ placed c p at

    pub placed-more : ArePlaced (classes_in (es ++ e ∷ [])) (set places e.class (length es))
    placed-more c p at = elim (at-append_cases (classes_in es) e.class p c (ap (λ cs. slice_get cs p) (sym (map-append (λ (d : CostEntry L C). d.class) es (e ∷ []))) ∙ at)) [
      | inl h ↦ placed-same c p h
      | inr h ↦ subst (λ d. slice_get (set places e.class (length es)) d ≡ Some p) (sym h.1)
          (at-set_same places e.class (length es) within ∙ ap Some (sym (h.0 ∙ length-map es (λ (d : CostEntry L C). d.class))))
    ]

    -- whether or not it entered
    pub placed-either : (b : Bool) (items : List (CostEntry L C)) → items ≡ (if b then es ++ e ∷ [] else es) → ArePlaced (classes_in items) (set places e.class (length es))
    placed-either true items h = subst (λ ds. ArePlaced (classes_in ds) (set places e.class (length es))) (sym h) placed-more
    placed-either false items h = subst (λ ds. ArePlaced (classes_in ds) (set places e.class (length es))) (sym h) placed-same

  -- where nothing stands at a place, and where another class does
  pub entry-no_place : (es : List (CostEntry L C)) (places : List ℕ) → ArePlaced (classes_in es) places → (c : ℕ) → length places ≤ c → None ≡ entry_in (table_of form es) c
  entry-no_place es places placed c past = sym (entry-absent es places placed c (λ p at. absurd (None-Some p (sym (slice_get_past places c past) ∙ at))))

  pub entry-past : (es : List (CostEntry L C)) (places : List ℕ) → ArePlaced (classes_in es) places → (c p : ℕ) → c < length places → p ≡ get_or places c p → length es ≤ p → None ≡ entry_in (table_of form es) c
  entry-past es places placed c p within is past = sym (entry-absent es places placed c (λ q at here.
      let same : q ≡ p = Some-same q p (sym at ∙ slice_get_read places (length places) c p refl within is) in
      let less : q < length (classes_in es) = slice_get_within (classes_in es) q c here in
      let count : length (classes_in es) ≡ length es = length-map es (λ (d : CostEntry L C). d.class) in
      omega arith))

  pub entry-other : (es : List (CostEntry L C)) (places : List ℕ) → ArePlaced (classes_in es) places → (c p : ℕ) (e : CostEntry L C) → c < length places → p ≡ get_or places c p → p < length es → e ≡ get_or es p e → e.class ≢ c → None ≡ entry_in (table_of form es) c
  entry-other es places placed c p e within is less here other = sym (entry-absent es places placed c (λ q at listed.
      let same : q ≡ p = Some-same q p (sym at ∙ slice_get_read places (length places) c p refl within is) in
      let there : slice_get (classes_in es) p ≡ Some e.class = slice_get-map (λ (d : CostEntry L C). d.class) es p ∙ ap (option_map (λ (d : CostEntry L C). d.class)) (slice_get_read es (length es) p e refl less here) in
      other (Some-same e.class c (sym there ∙ (ap (slice_get (classes_in es)) (sym same) ∙ listed)))))

  pub entry-here : (es : List (CostEntry L C)) (places : List ℕ) → ArePlaced (classes_in es) places → (c p : ℕ) (e : CostEntry L C) → c < length places → p ≡ get_or places c p → p < length es → e ≡ get_or es p e → e.class ≡ c → Some (entry_of form e) ≡ entry_in (table_of form es) c
  entry-here es places placed c p e within is less here same =
      sym (entry-placed es places placed c p e (slice_get_read places (length places) c p refl within is) (slice_get_read es (length es) p e refl less here) same)

-- costs of classes one after another
module _ {C : Type 0} (table : List (TableEntry C)) where
  pub costs-more : (cs : List ℕ) (c : ℕ) (xs : List C) (x : C) → costs_in table cs ≡ Some xs → cost_in table c ≡ Some x → costs_in table (cs ++ c ∷ []) ≡ Some (xs ++ x ∷ [])
  costs-more cs c xs x h k = costs-append table cs (c ∷ []) xs (x ∷ []) h (costs-by table c [] x [] k refl)

  none-of : {A : Type 0} (o : Option A) → ((x : A) → o ≢ Some x) → o ≡ None
  none-of None h = refl
  none-of (Some x) h = absurd (h x refl)

  pub costs-lack : (cs : List ℕ) (c : ℕ) → Contains cs c → cost_in table c ≡ None → costs_in table cs ≡ None
  costs-lack cs c here none = none-of (costs_in table cs) (λ xs h. let e = costs-each table cs xs h c here in None-Some e.0 (sym none ∙ e.1))

  pub costs-step : {A : Type 0} (f : A → ℕ) (ws : List A) (i : ℕ) (d : A) (xs ys : List C) (x : C) → i < length ws → costs_in table (map f (take i ws)) ≡ Some xs → cost_in table (f (get_or ws i d)) ≡ Some x → ys ≡ xs ++ x ∷ [] → costs_in table (map f (take (i + 1) ws)) ≡ Some ys
  costs-step f ws i d xs ys x lt h k e =
      ap (λ bs. costs_in table (map f bs)) (take_more ws i d lt)
      ∙ (ap (costs_in table) (map-append f (take i ws) (get_or ws i d ∷ [])) ∙ (costs-more (map f (take i ws)) (f (get_or ws i d)) xs x h k ∙ ap Some (sym e)))

  pub costs-missed : {A : Type 0} (f : A → ℕ) (ws : List A) (i : ℕ) (d : A) → i < length ws → cost_in table (f (get_or ws i d)) ≡ None → costs_in table (map f ws) ≡ None
  costs-missed f ws i d lt none = costs-lack (map f ws) (f (get_or ws i d)) (Contains-map f ws (get_or ws i d) (Contains-get_or ws i d lt)) none
