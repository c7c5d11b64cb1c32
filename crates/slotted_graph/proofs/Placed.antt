-- Entries at the places of their classes: none, and one after another.
use Rattle.std.proofs.Common.{◌≡◌, ◌<◌, ◌≤◌, ◌+◌, ◌∙◌, ℕ, zero, suc, List, [], ◌∷◌, ◌++◌, Option, None, Some, length, take, refl, ap, sym, subst, inl, inr, arith}
use Rattle.std.specs.Prelude.{◌≢◌, All, set, slice_get, unwrap_or}
use Rattle.std.proofs.lemmas.Bool.{cases_eq}
use Rattle.std.proofs.lemmas.List.{length-set, length_push, take_all}
use Rattle.std.proofs.lemmas.Option.{get_or_from_slice_get, slice_get_within, unwrap_or-slice_get}
use Rattle.slotted_lists.proofs.Options.{Some-same}
use Rattle.slotted_lists.proofs.Lists.{slice_get-append_end}
use Rattle.slotted_model.proofs.Data.Options.{None-Some}
use Rattle.slotted_classes.specs.Kept.{Kept}
use Rattle.slotted_hashcons.proofs.Places.{at-set_other, at-set_same, at-take}
use Rattle.slotted_costs.specs.declared.entry.CostEntry.{CostEntry}
use Rattle.slotted_graph.specs.declared.entry.TermEntry.{TermEntry}
use Rattle.slotted_graph.specs.Terms.{entry_at}
use Rattle.slotted_graph.specs.Placing.{ArePlaced, ClassesDiffer, HasPlace, IsPlaced, IsTermFor, IsWithin}

-- a class more that has no entry
pub none-more : {L C : Type 0} (v : List (Option (TermEntry L C))) → ((c : ℕ) → entry_at v c ≡ None) → (c : ℕ) → entry_at (v ++ None ∷ []) c ≡ None
none-more [] none zero = refl
none-more [] none (suc c) = refl
none-more (o ∷ v) none zero = none 0
none-more (o ∷ v) none (suc c) = none-more v (λ d. none (suc d)) c

module _ {L C : Type 0} (k : Kept) (es : List (CostEntry L C)) where
  pub placed-none : (v : List (Option (TermEntry L C))) → ((c : ℕ) → entry_at v c ≡ None) → (n : ℕ) → length es ≤ n → ArePlaced k es n v
  placed-none v none n past = record {
    from = λ c t at. absurd (None-Some t (sym (none c) ∙ at));
    has = λ i e le at. absurd (omega (arith, slice_get_within es i e at, le, past));
  }

  entry-set_same : (v : List (Option (TermEntry L C))) (c : ℕ) (t : TermEntry L C) → c < length v → entry_at (set v c (Some t)) c ≡ Some t
  entry-set_same v c t lt = sym (unwrap_or-slice_get (set v c (Some t)) c None) ∙ ap (λ o. unwrap_or o None) (at-set_same v c (Some t) lt)

  entry-set_other : (v : List (Option (TermEntry L C))) (c d : ℕ) (t : TermEntry L C) → d ≢ c → entry_at (set v c (Some t)) d ≡ entry_at v d
  entry-set_other v c d t n = sym (unwrap_or-slice_get (set v c (Some t)) d None) ∙ (ap (λ o. unwrap_or o None) (at-set_other v c d (Some t) n) ∙ unwrap_or-slice_get v d None)

  -- what was popped is the last of the first ones
  pub popped-at : (left rest : List (CostEntry L C)) (e : CostEntry L C) → left ≡ take (length left) es → left ≡ rest ++ e ∷ [] → slice_get es (length rest) ≡ Some e
  popped-at left rest e first popped =
      let n : length left ≡ length rest + 1 = ap length popped ∙ length_push rest e in
      sym (at-take (length left) es (length rest) (omega (arith, n))) ∙ (ap (λ l. slice_get l (length rest)) (sym first ∙ popped) ∙ slice_get-append_end rest e)

  first-ones : (xs ys : List (CostEntry L C)) (e : CostEntry L C) (n : ℕ) → xs ++ e ∷ [] ≡ take n ys → xs ≡ take (length xs) ys
  first-ones [] ys e n h = refl
  first-ones (x ∷ xs) ys e zero h = absurd (omega (arith, ap length h))
  first-ones (x ∷ xs) [] e (suc n) h = absurd (omega (arith, ap length h))
  first-ones (x ∷ xs) (y ∷ ys) e (suc n) h =
      let head : x ≡ y = cc in
      let tail : xs ++ e ∷ [] ≡ take n ys = cc in
      let rest : xs ≡ take (length xs) ys = first-ones xs ys e n tail in
      λ i. head i ∷ rest i

  pub popped-rest : (left rest : List (CostEntry L C)) (e : CostEntry L C) → left ≡ take (length left) es → left ≡ rest ++ e ∷ [] → rest ≡ take (length rest) es
  popped-rest left rest e first popped = first-ones rest es e (length left) (sym popped ∙ first)

  -- one entry more is placed
  pub placed-more : ClassesDiffer es → (v : List (Option (TermEntry L C))) (i : ℕ) (e : CostEntry L C) (t : TermEntry L C) → slice_get es i ≡ Some e → e.class < length v → IsTermFor k e i t →
      ArePlaced k es (suc i) v → ArePlaced k es i (set v e.class (Some t))
  placed-more differ v i e t at within term placed = record {
    from = λ c u there. elim (cases_eq c e.class) [
      | inl q ↦
          let same : t ≡ u = Some-same t u (sym (entry-set_same v e.class t within) ∙ (ap (entry_at (set v e.class (Some t))) (sym q) ∙ there)) in
          subst (IsPlaced k es i c) same (record { place = i; entry = e; past = omega arith; there = at; class = sym q; term = term })
      | inr n ↦
          let p = placed.from c u (sym (entry-set_other v e.class c t n) ∙ there) in
          record { place = p.place; entry = p.entry; past = omega (arith, p.past); there = p.there; class = p.class; term = p.term }
    ];
    has = λ j d past there. elim (cases_eq j i) [
      | inl q ↦
          let same : e ≡ d = Some-same e d (sym at ∙ (ap (slice_get es) (sym q) ∙ there)) in
          subst (λ x. HasPlace k (set v e.class (Some t)) x j) same (subst (HasPlace k (set v e.class (Some t)) e) (sym q) (record { entry = t; there = entry-set_same v e.class t within; term = term }))
      | inr n ↦
          let p = placed.has j d (omega (arith, past, n)) there in
          let other : d.class ≢ e.class = λ s. n (differ j i d e there at s) in
          record { entry = p.entry; there = entry-set_other v e.class d.class t other ∙ p.there; term = p.term }
    ];
  }

  pub length-placed : (v : List (Option (TermEntry L C))) (c : ℕ) (t : TermEntry L C) → length (set v c (Some t)) ≡ length v
  length-placed v c t = length-set v c (Some t)

  pub whole-taken : take (length es) es ≡ es
  whole-taken = take_all (length es) es (omega arith)

  -- where each entry is within the classes
  module _ (n : ℕ) (within : All (IsWithin k n) es) where
    pub popped-within : (left rest : List (CostEntry L C)) (e : CostEntry L C) → left ≡ take (length left) es → left ≡ rest ++ e ∷ [] → IsWithin k n e
    popped-within left rest e first popped =
        let at : slice_get es (length rest) ≡ Some e = popped-at left rest e first popped in
        subst (IsWithin k n) (get_or_from_slice_get es (length rest) e e at) (within (length rest) e (slice_get_within es (length rest) e at))

    pub placed-step : ClassesDiffer es → (left rest : List (CostEntry L C)) (e : CostEntry L C) → left ≡ take (length left) es → left ≡ rest ++ e ∷ [] →
        (v : List (Option (TermEntry L C))) (t : TermEntry L C) → length v ≡ n → IsTermFor k e (length rest) t → ArePlaced k es (length left) v → ArePlaced k es (length rest) (set v e.class (Some t))
    placed-step differ left rest e first popped v t count term placed =
        let many : length left ≡ suc (length rest) = let m : length left ≡ length rest + 1 = ap length popped ∙ length_push rest e in omega (arith, m) in
        let h = popped-within left rest e first popped in
        placed-more differ v (length rest) e t (popped-at left rest e first popped) (omega (arith, h.class, count)) term (subst (λ i. ArePlaced k es i v) many placed)
