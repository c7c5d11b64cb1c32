-- The rows over a class are told, one after another.
use Rattle.std.proofs.Common.{◌≡◌, ◌<◌, ◌≤◌, ℕ, zero, suc, ◌+◌, ◌-◌, List, [], ◌∷◌, ◌++◌, length, take, drop, get_or, Option, Some, sym, ◌∙◌, ap, refl, subst, inl, inr, arith}
use Rattle.std.specs.Prelude.{◌≢◌, ◌⊎◌, nat_eq, set, Contains, slice_index_or}
use Rattle.std.specs.List.Sorted.{IsPermutation}
use Rattle.std.proofs.lemmas.Bool.{cases_eq}
use Rattle.std.proofs.lemmas.List.{length-set, get_or-set_same, get_or-set_other, take-append-drop, take_more, drop_more}
use Rattle.std.proofs.lemmas.List.Elements.{Contains-push_cases}
use Rattle.std.proofs.lemmas.List.Sorted.{IsPermutation-map, IsPermutation-sym, Contains-permutation, length_permutation}
use Rattle.slotted_lists.proofs.Contained.{contains_head, contains_tail, contains_cases}
use Rattle.slotted_lists.proofs.Options.{Some-same}
use Rattle.slotted_nodes.specs.Form.{Form}
use Rattle.slotted_model.specs.Cost.{CostFunction}
use Rattle.slotted_model.specs.Extraction.{TableEntry}
use Rattle.slotted_model.proofs.Data.Options.{None-Some}
use Rattle.slotted_hashcons.specs.Filed.{Filing}
use Rattle.slotted_costs.specs.declared.candidate.Candidate.{Candidate}
use Rattle.slotted_costs.specs.Prices.{IsCandidateFor, Pushes, filed_cost, pair_of, pairs_of}
use Rattle.slotted_costs.specs.Counts.{times, one_if, unpriced, one_if_any}
use Rattle.slotted_costs.specs.Making.{Tells, Told}
use Rattle.slotted_costs.proofs.Counting.{one-same, one-other, times-append, times-more, unpriced-set, any-suc, within-positive}

module _ {L C : Type 0} (form : L → Form) (k : CostFunction C) (table : List (TableEntry C)) (v : List (Option Filing)) where
  -- what a push gives a queue
  pub record HasPushed (i : ℕ) (q r : List (Candidate L C)) : Type 0 where
    pub from : (c : Candidate L C) → Contains r c → Contains q c ⊎ IsCandidateFor form k table v c.source.0 c
    pub kept : (s : ℕ) (x : C) → Contains (pairs_of q) (s, x) → Contains (pairs_of r) (s, x)
    pub pushed : (x : C) → filed_cost k table v i ≡ Some x → Contains (pairs_of r) (i, x)
    pub work : length r ≤ length q + 1

  pub has-pushed : (i : ℕ) (q r : List (Candidate L C)) → Pushes form k table v i q r → HasPushed i q r
  has-pushed i q r (inl h) = record {
    from = λ c d. inl (subst (λ l. Contains l c) h.1 d);
    kept = λ s x d. subst (λ l. Contains (pairs_of l) (s, x)) (sym h.1) d;
    pushed = λ x e. absurd (None-Some x (sym h.0 ∙ e));
    work = omega (arith, ap length h.1);
  }
  has-pushed i q r (inr h) =
      let all : IsPermutation (pairs_of (h.next ∷ q)) (pairs_of r) = IsPermutation-map pair_of (h.next ∷ q) r h.queue in
      record {
        from = λ c d. elim (contains_cases h.next q c (Contains-permutation r (h.next ∷ q) c (IsPermutation-sym (h.next ∷ q) r h.queue) d)) [
          | inl e ↦ inr (subst (λ (w : Candidate L C). IsCandidateFor form k table v w.source.0 w) (sym e) (subst (λ n. IsCandidateFor form k table v n h.next) (sym h.is.source) h.is))
          | inr w ↦ inl w
        ];
        kept = λ s x d. Contains-permutation (pairs_of (h.next ∷ q)) (pairs_of r) (s, x) all (contains_tail (pair_of h.next) (pairs_of q) (s, x) d);
        pushed = λ x e. subst (λ (p : ℕ × C). Contains (pairs_of r) p) (λ n. (h.is.source n, Some-same h.next.cost.0 x (sym h.is.cost ∙ e) n))
            (Contains-permutation (pairs_of (h.next ∷ q)) (pairs_of r) (pair_of h.next) all (contains_head (pair_of h.next) (pairs_of q)));
        work = omega (arith, length_permutation (h.next ∷ q) r h.queue);
      }

  pub told-none : (l : List ℕ) (q : List (Candidate L C)) → Told form k table v [] l l q q
  told-none l q = record {
    lists = refl;
    counts = λ s. omega arith;
    from = λ c d. inl d;
    kept = λ s x c. c;
    pushed = λ s x c. absurd (none s c);
    work = omega arith;
  }
    where
      none : (s : ℕ) → ¬ Contains [] s
      none s c = let lt : c.0 < 0 = c.1 in absurd (omega arith)

  module _ (us l m : List ℕ) (q r t : List (Candidate L C)) (d : ℕ) (told : Told form k table v us l m q r) (some : 0 < slice_index_or m d 0) where
    abbrev lowered : List ℕ
    lowered = set m d (slice_index_or m d 0 - 1)

    within : d < length m
    within = within-positive m d some

    at-same : (s : ℕ) → s ≡ d → slice_index_or lowered s 0 ≡ slice_index_or m d 0 - 1
    at-same s e = ap (λ n. slice_index_or lowered n 0) e ∙ get_or-set_same m d (slice_index_or m d 0 - 1) 0 within

    at-other : (s : ℕ) → s ≢ d → slice_index_or lowered s 0 ≡ slice_index_or m s 0
    at-other s n = get_or-set_other m d s (slice_index_or m d 0 - 1) 0 n

    counts-next : (s : ℕ) → slice_index_or lowered s 0 + times s (us ++ d ∷ []) ≡ slice_index_or l s 0
    counts-next s =
        let old : slice_index_or m s 0 + times s us ≡ slice_index_or l s 0 = told.counts s in
        let more : times s (us ++ d ∷ []) ≡ times s us + one_if (nat_eq d s) = times-more s us d in
        elim (cases_eq s d) [
          | inl e ↦
              let a : slice_index_or lowered s 0 ≡ slice_index_or m d 0 - 1 = at-same s e in
              let b : slice_index_or m s 0 ≡ slice_index_or m d 0 = ap (λ n. slice_index_or m n 0) e in
              let o : one_if (nat_eq d s) ≡ 1 = one-same s d (sym e) in
              omega arith
          | inr n ↦
              let a : slice_index_or lowered s 0 ≡ slice_index_or m s 0 = at-other s n in
              let o : one_if (nat_eq d s) ≡ 0 = one-other s d (λ e. n (sym e)) in
              omega arith
        ]

    -- the row has been told, and was pushed if it is counted no more
    abbrev left : ℕ
    left = slice_index_or m d 0 - 1

    pub told-pushed : left ≡ 0 → HasPushed d r t → Told form k table v (us ++ d ∷ []) l lowered q t
    told-pushed zero_left push = record {
      lists = length-set m d left ∙ told.lists;
      counts = counts-next;
      from = λ c w. elim (push.from c w) [
        | inl h ↦ told.from c h
        | inr h ↦ inr h
      ];
      kept = λ s x c. push.kept s x (told.kept s x c);
      pushed = λ s x c none o. elim (cases_eq s d) [
        | inl e ↦ subst (λ n. Contains (pairs_of t) (n, x)) (sym e) (push.pushed x (ap (filed_cost k table v) (sym e) ∙ o))
        | inr n ↦ elim (Contains-push_cases us d s c) [
          | inl h ↦ push.kept s x (told.pushed s x h (sym (at-other s n) ∙ none) o)
          | inr e ↦ absurd (n (sym e))
        ]
      ];
      work =
          let a : unpriced lowered + one_if_any (get_or m d 0) ≡ unpriced m + one_if_any left = unpriced-set m d left within in
          let b : one_if_any left ≡ 0 = ap one_if_any zero_left in
          let e : one_if_any (get_or m d 0) ≡ 1 = any-suc (get_or m d 0) some in
          omega (arith, told.work, push.work);
    }

    pub told-lowered : 0 < left → t ≡ r → Told form k table v (us ++ d ∷ []) l lowered q t
    told-lowered some_left same = record {
      lists = length-set m d left ∙ told.lists;
      counts = counts-next;
      from = λ c h. told.from c (subst (λ w. Contains w c) same h);
      kept = λ s x c. subst (λ w. Contains (pairs_of w) (s, x)) (sym same) (told.kept s x c);
      pushed = λ s x c none o. elim (cases_eq s d) [
        | inl e ↦ let a : slice_index_or lowered s 0 ≡ left = at-same s e in absurd (omega (arith, none))
        | inr n ↦ elim (Contains-push_cases us d s c) [
          | inl h ↦ subst (λ w. Contains (pairs_of w) (s, x)) (sym same) (told.pushed s x h (sym (at-other s n) ∙ none) o)
          | inr e ↦ absurd (n (sym e))
        ]
      ];
      work =
          let a : unpriced lowered + one_if_any (get_or m d 0) ≡ unpriced m + one_if_any left = unpriced-set m d left within in
          let b : one_if_any left ≡ 1 = any-suc left some_left in
          let e : one_if_any (get_or m d 0) ≡ 1 = any-suc (get_or m d 0) some in
          let w : length t ≡ length r = ap length same in
          omega (arith, told.work);
    }

    pub told-next : (n : ℕ) → left ≡ n → Tells form k table v n d r t → Told form k table v (us ++ d ∷ []) l lowered q t
    told-next zero e h = told-pushed e (has-pushed d r t h)
    told-next (suc n) e h = told-lowered (omega (arith, e)) h

  -- a row that is to be told lacks a cost
  pub told-some : (sources l m : List ℕ) (q r : List (Candidate L C)) (i d : ℕ) → Told form k table v (take i sources) l m q r → ((s : ℕ) → times s sources ≤ slice_index_or l s 0) → i < length sources → 0 < slice_index_or m (get_or sources i d) 0
  told-some sources l m q r i d told few lt =
      let s : ℕ = get_or sources i d in
      let a : slice_index_or m s 0 + times s (take i sources) ≡ slice_index_or l s 0 = told.counts s in
      let b : times s sources ≤ slice_index_or l s 0 = few s in
      let e : times s sources ≡ times s (take i sources) + times s (drop i sources) = ap (times s) (sym (take-append-drop i sources)) ∙ times-append s (take i sources) (drop i sources) in
      let f : times s (drop i sources) ≡ one_if (nat_eq s s) + times s (drop (i + 1) sources) = ap (times s) (drop_more sources i d lt) in
      let o : one_if (nat_eq s s) ≡ 1 = one-same s s refl in
      omega arith

  -- one row more is told
  pub told-step : (sources l m n : List ℕ) (q r t : List (Candidate L C)) (i : ℕ) → i < length sources → Told form k table v (take i sources) l m q r → 0 < slice_index_or m (get_or sources i 0) 0 →
      n ≡ set m (get_or sources i 0) (slice_index_or m (get_or sources i 0) 0 - 1) → Tells form k table v (slice_index_or m (get_or sources i 0) 0 - 1) (get_or sources i 0) r t → Told form k table v (take (i + 1) sources) l n q t
  told-step sources l m n q r t i lt told some lowered_is tells =
      let d : ℕ = get_or sources i 0 in
      let next : Told form k table v (take i sources ++ d ∷ []) l (set m d (slice_index_or m d 0 - 1)) q t = told-next (take i sources) l m q r t d told some (slice_index_or m d 0 - 1) refl tells in
      subst (λ us. Told form k table v us l n q t) (sym (take_more sources i 0 lt)) (subst (λ w. Told form k table v (take i sources ++ d ∷ []) l w q t) (sym lowered_is) next)
