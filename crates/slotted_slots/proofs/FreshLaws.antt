-- Lists whose holes were filled by fresh slots, and the maps that have them as values or keys.
use Rattle.std.proofs.Common.{◌≡◌, ℕ, zero, suc, ◌<◌, ◌≤◌, true, false, not, List, [], ◌∷◌, ◌++◌, ◌+◌, length, get_or, take, map, Option, Some, None, refl, sym, ap, subst, inl, inr, arith, ◌∙◌}
use Rattle.std.specs.Prelude.{◌⊎◌, is_some}
use Rattle.std.proofs.lemmas.Bool.{cases_eq, cases_Bool, eq-eqb, ne_eqb, and_parts, and_from, true≢false, not-true, lt-ltb, le-ltb}
use Rattle.std.proofs.lemmas.List.{take_more}
use Rattle.slotted_lists.proofs.Maps.{keys-push}
use Rattle.slotted_slots.specs.Ascending.{AllAbove, IsAscending}
use Rattle.slotted_slots.specs.Combining.{sent_on, IsFreshFrom, IsFilled, IsNew, IsCompleted, both_values, lacked, TakesForLacked, LacksForLacked, TakesToComplete, LacksToComplete}
use Rattle.slotted_slots.specs.Maps.{keys, values, value_of, is_among, all_differ, composed, with_first}
use Rattle.slotted_slots.specs.Table.{Table, fresh_slot, is_known}
use Rattle.slotted_slots.proofs.MapLaws.{is_among-cons, is_among-first, is_among-more, is_among-value_of}
use Rattle.slotted_slots.proofs.TableLaws.{is_known-fresh_slot}

-- each value stands as it is, and each hole holds a fresh slot, of rising indexes between the two
abbrev pub AreFilled : List ℕ → ℕ → ℕ → List (Option ℕ) → List ℕ → Type 0
AreFilled used low high [] [] = low ≤ high
AreFilled used low high [] (s ∷ ss) = ⊥
AreFilled used low high (o ∷ os) [] = ⊥
AreFilled used low high (o ∷ os) (s ∷ ss) = (mid : ℕ) × IsFilled low mid used o s × AreFilled used mid high os ss

-- bounds that are wider do too
IsFilled-wider : (used : List ℕ) (low high lower higher : ℕ) → lower ≤ low → high ≤ higher → (o : Option ℕ) (s : ℕ) → IsFilled low high used o s → IsFilled lower higher used o s
IsFilled-wider used low high lower higher le ge (Some v) s filled = (filled.0, omega (arith, filled.1))
IsFilled-wider used low high lower higher le ge None s filled = record {
  index = filled.index;
  is_fresh = filled.is_fresh;
  from_low = omega (arith, filled.from_low);
  below_high = omega (arith, filled.below_high);
  unused = filled.unused;
}

IsFilled-bounds : (used : List ℕ) (low high : ℕ) (o : Option ℕ) (s : ℕ) → IsFilled low high used o s → low ≤ high
IsFilled-bounds used low high (Some v) s filled = filled.1
IsFilled-bounds used low high None s filled = omega (arith, filled.from_low, filled.below_high)

pub AreFilled-bounds : (used : List ℕ) (low high : ℕ) (os : List (Option ℕ)) (ss : List ℕ) → AreFilled used low high os ss → low ≤ high
AreFilled-bounds used low high [] [] filled = filled
AreFilled-bounds used low high [] (s ∷ ss) filled = absurd filled
AreFilled-bounds used low high (o ∷ os) [] filled = absurd filled
AreFilled-bounds used low high (o ∷ os) (s ∷ ss) filled =
    omega (arith, IsFilled-bounds used low filled.0 o s filled.1, AreFilled-bounds used filled.0 high os ss filled.2)

-- one more
pub AreFilled-push : (used : List ℕ) (low mid high : ℕ) (os : List (Option ℕ)) (ss : List ℕ) (o : Option ℕ) (s : ℕ) → AreFilled used low mid os ss → IsFilled mid high used o s → AreFilled used low high (os ++ o ∷ []) (ss ++ s ∷ [])
AreFilled-push used low mid high [] [] o s filled last = (high, IsFilled-wider used mid high low high filled (omega arith) o s last, omega arith)
AreFilled-push used low mid high [] (t ∷ ss) o s filled last = absurd filled
AreFilled-push used low mid high (p ∷ os) [] o s filled last = absurd filled
AreFilled-push used low mid high (p ∷ os) (t ∷ ss) o s filled last = (filled.0, filled.1, AreFilled-push used filled.0 mid high os ss o s filled.2 last)

-- what stands at a key
pub filled_at : (used : List ℕ) (low high : ℕ) (m n r : List (ℕ × ℕ)) → keys r ≡ keys m → AreFilled used low high (sent_on m n) (values r) → (k v : ℕ) → value_of m k ≡ Some v → (s : ℕ) × (value_of r k ≡ Some s) × IsFilled low high used (value_of n v) s
filled_at used low high [] n r ks filled k v e = absurd (cc)
filled_at used low high (p ∷ m) n [] ks filled k v e = absurd (cc)
filled_at used low high (p ∷ m) n (q ∷ r) ks filled k v e =
    let key : q.0 ≡ p.0 = cc in
    elim (cases_eq p.0 k) [
      | inl here ↦
          let own : Some p.1 ≡ Some v = rw (eq-eqb p.0 k here) at e in
          let at_value : p.1 ≡ v = cc in
          let wide = IsFilled-wider used low filled.0 low high (omega arith) (AreFilled-bounds used filled.0 high (sent_on m n) (values r) filled.2) (value_of n p.1) q.1 filled.1 in
          (q.1, rw (eq-eqb q.0 k (key ∙ here)) refl, subst (λ x. IsFilled low high used (value_of n x) q.1) at_value wide)
      | inr other ↦
          let found = filled_at used filled.0 high m n r (cc) filled.2 k v (rw (ne_eqb p.0 k other) at e) in
          let le = IsFilled-bounds used low filled.0 (value_of n p.1) q.1 filled.1 in
          (found.0, rw (ne_eqb q.0 k (λ same. other (sym key ∙ same))) found.1, IsFilled-wider used filled.0 high low high le (omega arith) (value_of n v) found.0 found.2)
    ]

-- what stands at a hole
pub hole_at : (used : List ℕ) (low high : ℕ) (m n r : List (ℕ × ℕ)) → keys r ≡ keys m → AreFilled used low high (sent_on m n) (values r) → (k v s : ℕ) → value_of m k ≡ Some v → value_of n v ≡ None → value_of r k ≡ Some s → IsFreshFrom low high used s
hole_at used low high m n r ks filled k v s e hole f =
    let found = filled_at used low high m n r ks filled k v e in
    let same : found.0 ≡ s = cc (found.1) in
    subst (IsFreshFrom low high used) same (subst (λ o. IsFilled low high used o found.0) hole found.2)

-- two holes hold two slots
pub holes_apart : (used : List ℕ) (low high : ℕ) (m n r : List (ℕ × ℕ)) → keys r ≡ keys m → AreFilled used low high (sent_on m n) (values r) → (j k v w s : ℕ) → value_of m j ≡ Some v → value_of n v ≡ None → value_of m k ≡ Some w → value_of n w ≡ None → value_of r j ≡ Some s → value_of r k ≡ Some s → j ≡ k
holes_apart used low high [] n r ks filled j k v w s e ne f nf g h = absurd (cc)
holes_apart used low high (p ∷ m) n [] ks filled j k v w s e ne f nf g h = absurd (cc)
holes_apart used low high (p ∷ m) n (q ∷ r) ks filled j k v w s e ne f nf g h =
    let key : q.0 ≡ p.0 = cc in
    let rest : keys r ≡ keys m = cc in
    elim (cases_eq p.0 j) [
      | inl here ↦ elim (cases_eq p.0 k) [
        | inl there ↦ sym here ∙ there
        | inr away ↦ absurd (clash key rest j k v w here away e ne f nf g h)
      ]
      | inr other ↦ elim (cases_eq p.0 k) [
        | inl there ↦ absurd (clash key rest k j w v there other f nf e ne h g)
        | inr away ↦
            holes_apart used filled.0 high m n r rest filled.2 j k v w s
            (rw (ne_eqb p.0 j other) at e) ne (rw (ne_eqb p.0 k away) at f) nf
            (rw (ne_eqb q.0 j (λ same. other (sym key ∙ same))) at g) (rw (ne_eqb q.0 k (λ same. away (sym key ∙ same))) at h)
      ]
    ]
  where
    clash : q.0 ≡ p.0 → keys r ≡ keys m → (j k v w : ℕ) → p.0 ≡ j → (p.0 ≡ k → ⊥) → value_of (p ∷ m) j ≡ Some v → value_of n v ≡ None → value_of (p ∷ m) k ≡ Some w → value_of n w ≡ None → value_of (q ∷ r) j ≡ Some s → value_of (q ∷ r) k ≡ Some s → ⊥
    clash key rest j k v w here away e ne f nf g h =
        let own : Some p.1 ≡ Some v = rw (eq-eqb p.0 j here) at e in
        let head : Some q.1 ≡ Some s = rw (eq-eqb q.0 j (key ∙ here)) at g in
        let at_value : p.1 ≡ v = cc in
        let at_slot : q.1 ≡ s = cc in
        let first : IsFreshFrom low filled.0 used q.1 = subst (λ o. IsFilled low filled.0 used o q.1) (ap (value_of n) at_value ∙ ne) filled.1 in
        let second = hole_at used filled.0 high m n r rest filled.2 k w s (rw (ne_eqb p.0 k away) at f) nf (rw (ne_eqb q.0 k (λ same. away (sym key ∙ same))) at h) in
        omega (arith, at_slot, first.is_fresh, first.below_high, second.is_fresh, second.from_low)

-- fresh slots are new, where the counter went past them
pub IsNew-from_fresh : (old new : Table) (used : List ℕ) (s : ℕ) → IsFreshFrom old.fresh new.fresh used s → IsNew old new used s
IsNew-from_fresh old new used s fresh = record {
  unknown = ap (is_known old) fresh.is_fresh ∙ (is_known-fresh_slot old fresh.index ∙ le-ltb fresh.index old.fresh fresh.from_low);
  known = ap (is_known new) fresh.is_fresh ∙ (is_known-fresh_slot new fresh.index ∙ lt-ltb fresh.index new.fresh fresh.below_high);
  unused = fresh.unused;
}

-- so a map with the right keys whose values are filled is completed
pub IsCompleted-filled : (old new : Table) (m n r : List (ℕ × ℕ)) → keys r ≡ keys m → AreFilled (values m ++ values n) old.fresh new.fresh (sent_on m n) (values r) → IsCompleted old new m n r
IsCompleted-filled old new m n r ks filled = record {
  same_keys = ks;
  sent = λ k v w e f.
      let found = filled_at (values m ++ values n) old.fresh new.fresh m n r ks filled k v e in
      let is : (found.0 ≡ w) × (old.fresh ≤ new.fresh) = subst (λ o. IsFilled old.fresh new.fresh (values m ++ values n) o found.0) f found.2 in
      found.1 ∙ ap Some is.0;
  made = λ k v s e hole f. IsNew-from_fresh old new (values m ++ values n) s (hole_at (values m ++ values n) old.fresh new.fresh m n r ks filled k v s e hole f);
  apart = holes_apart (values m ++ values n) old.fresh new.fresh m n r ks filled;
}

-- what is sent on is a value of the second map
pub is_among-composed : (m n : List (ℕ × ℕ)) (v : ℕ) → is_among v (values (composed m n)) ≡ true → is_among v (values n) ≡ true
is_among-composed [] n v there = absurd (true≢false (sym there))
is_among-composed (p ∷ m) n v there = by (value_of n p.1) refl there (is_among-composed m n v)
  where
    by : (o : Option ℕ) → value_of n p.1 ≡ o → is_among v (values (with_first p.0 o (composed m n))) ≡ true → (is_among v (values (composed m n)) ≡ true → is_among v (values n) ≡ true) → is_among v (values n) ≡ true
    by (Some w) found there rest = elim (is_among-cons v w (values (composed m n)) there) [
      | inl here ↦ is_among-value_of n p.1 v (found ∙ ap Some here)
      | inr further ↦ rest further
    ]
    by None found there rest = rest there

-- a filled list has values that are sent on, and fresh slots
is_among-filled : (used : List ℕ) (low high : ℕ) (m n : List (ℕ × ℕ)) (ss : List ℕ) → AreFilled used low high (sent_on m n) ss → (v : ℕ) → is_among v ss ≡ true → (is_among v (values (composed m n)) ≡ true) ⊎ IsFreshFrom low high used v
is_among-filled used low high [] n [] filled v there = absurd (true≢false (sym there))
is_among-filled used low high [] n (s ∷ ss) filled v there = absurd filled
is_among-filled used low high (p ∷ m) n [] filled v there = absurd filled
is_among-filled used low high (p ∷ m) n (s ∷ ss) filled v there =
    let end = AreFilled-bounds used filled.0 high (sent_on m n) ss filled.2 in
    let start = IsFilled-bounds used low filled.0 (value_of n p.1) s filled.1 in
    by (value_of n p.1) (IsFilled-wider used low filled.0 low high (omega arith) end (value_of n p.1) s filled.1) start (is_among-cons v s ss there) (is_among-filled used filled.0 high m n ss filled.2 v)
  where
    by : (o : Option ℕ) → IsFilled low high used o s → low ≤ filled.0 → (s ≡ v) ⊎ (is_among v ss ≡ true) → (is_among v ss ≡ true → (is_among v (values (composed m n)) ≡ true) ⊎ IsFreshFrom filled.0 high used v) → (is_among v (values (with_first p.0 o (composed m n))) ≡ true) ⊎ IsFreshFrom low high used v
    by (Some w) is start (inl here) rest = inl (is_among-first v w (values (composed m n)) (sym is.0 ∙ here))
    by None is start (inl here) rest = inr (subst (IsFreshFrom low high used) here is)
    by (Some w) is start (inr further) rest = elim (rest further) [
      | inl sent ↦ inl (is_among-more v w (values (composed m n)) sent)
      | inr fresh ↦ inr (IsFilled-wider used filled.0 high low high start (omega arith) None v fresh)
    ]
    by None is start (inr further) rest = elim (rest further) [
      | inl sent ↦ inl sent
      | inr fresh ↦ inr (IsFilled-wider used filled.0 high low high start (omega arith) None v fresh)
    ]

is_among-false : (v : ℕ) (xs : List ℕ) → (is_among v xs ≡ true → ⊥) → is_among v xs ≡ false
is_among-false v xs never = elim (cases_Bool (is_among v xs)) [
  | inl there ↦ absurd (never there)
  | inr missing ↦ missing
]

-- where the values that are sent on differ, all values differ
pub all_differ-filled : (used : List ℕ) (low high : ℕ) (m n : List (ℕ × ℕ)) (ss : List ℕ) → ((v : ℕ) → is_among v (values n) ≡ true → is_among v used ≡ true) → AreFilled used low high (sent_on m n) ss → all_differ (values (composed m n)) ≡ true → all_differ ss ≡ true
all_differ-filled used low high [] n [] within filled differ = refl
all_differ-filled used low high [] n (s ∷ ss) within filled differ = absurd filled
all_differ-filled used low high (p ∷ m) n [] within filled differ = absurd filled
all_differ-filled used low high (p ∷ m) n (s ∷ ss) within filled differ =
    by (value_of n p.1) refl filled.1 differ (is_among-filled used filled.0 high m n ss filled.2 s) (all_differ-filled used filled.0 high m n ss within filled.2)
  where
    by : (o : Option ℕ) → value_of n p.1 ≡ o → IsFilled low filled.0 used o s → all_differ (values (with_first p.0 o (composed m n))) ≡ true → (is_among s ss ≡ true → (is_among s (values (composed m n)) ≡ true) ⊎ IsFreshFrom filled.0 high used s) → (all_differ (values (composed m n)) ≡ true → all_differ ss ≡ true) → all_differ (s ∷ ss) ≡ true
    by (Some w) found is differ among rest =
        let parts = and_parts (not (is_among w (values (composed m n)))) (all_differ (values (composed m n))) differ in
        let gone : is_among s (values (composed m n)) ≡ false = ap (λ x. is_among x (values (composed m n))) is.0 ∙ not-true _ parts.0 in
        let taken : is_among s used ≡ true = within s (is_among-value_of n p.1 s (found ∙ ap Some (sym is.0))) in
        and_from _ _ (ap not (is_among-false s ss (λ there. elim (among there) [
          | inl sent ↦ true≢false (sym sent ∙ gone)
          | inr fresh ↦ true≢false (sym taken ∙ fresh.unused)
        ]))) (rest parts.1)
    by None found is differ among rest =
        and_from _ _ (ap not (is_among-false s ss (λ there. elim (among there) [
          | inl sent ↦ true≢false (sym (within s (is_among-composed m n s sent)) ∙ is.unused)
          | inr fresh ↦ omega (arith, is.is_fresh, is.below_high, fresh.is_fresh, fresh.from_low)
        ]))) (rest differ)

-- a list with a hole for each number
abbrev pub holes : List ℕ → List (Option ℕ)
holes xs = map (λ _. None) xs

-- fresh slots rise
filled_above : (used : List ℕ) (a low high : ℕ) (xs ss : List ℕ) → a < fresh_slot low → AreFilled used low high (holes xs) ss → AllAbove a ss
filled_above used a low high [] [] lt filled = tt
filled_above used a low high [] (s ∷ ss) lt filled = absurd filled
filled_above used a low high (x ∷ xs) [] lt filled = absurd filled
filled_above used a low high (x ∷ xs) (s ∷ ss) lt filled = (
  omega (arith, filled.1.is_fresh, filled.1.from_low),
  filled_above used a filled.0 high xs ss (omega (arith, filled.1.from_low, filled.1.below_high)) filled.2,
)

pub IsAscending-filled : (used : List ℕ) (low high : ℕ) (xs ss : List ℕ) → AreFilled used low high (holes xs) ss → IsAscending ss
IsAscending-filled used low high [] [] filled = tt
IsAscending-filled used low high [] (s ∷ ss) filled = absurd filled
IsAscending-filled used low high (x ∷ xs) [] filled = absurd filled
IsAscending-filled used low high (x ∷ xs) (s ∷ ss) filled = (
  filled_above used s filled.0 high xs ss (omega (arith, filled.1.is_fresh, filled.1.below_high)) filled.2,
  IsAscending-filled used filled.0 high xs ss filled.2,
)

-- and each of them is fresh
pub fresh_among : (used : List ℕ) (low high : ℕ) (xs ss : List ℕ) → AreFilled used low high (holes xs) ss → (s : ℕ) → is_among s ss ≡ true → IsFreshFrom low high used s
fresh_among used low high [] [] filled s there = absurd (true≢false (sym there))
fresh_among used low high [] (t ∷ ss) filled s there = absurd filled
fresh_among used low high (x ∷ xs) [] filled s there = absurd filled
fresh_among used low high (x ∷ xs) (t ∷ ss) filled s there =
    let end = AreFilled-bounds used filled.0 high (holes xs) ss filled.2 in
    let start = IsFilled-bounds used low filled.0 None t filled.1 in
    elim (is_among-cons s t ss there) [
      | inl here ↦ subst (IsFreshFrom low high used) here (IsFilled-wider used low filled.0 low high (omega arith) end None t filled.1)
      | inr rest ↦ IsFilled-wider used filled.0 high low high start (omega arith) None s (fresh_among used filled.0 high xs ss filled.2 s rest)
    ]

pub values-push : (m : List (ℕ × ℕ)) (p : ℕ × ℕ) → values (m ++ p ∷ []) ≡ values m ++ p.1 ∷ []
values-push [] p = refl
values-push (q ∷ m) p = ap (λ vs. q.1 ∷ vs) (values-push m p)

sent_on-push : (m n : List (ℕ × ℕ)) (p : ℕ × ℕ) → sent_on (m ++ p ∷ []) n ≡ sent_on m n ++ value_of n p.1 ∷ []
sent_on-push [] n p = refl
sent_on-push (q ∷ m) n p = ap (λ os. value_of n q.1 ∷ os) (sent_on-push m n p)

holes-push : (xs : List ℕ) (x : ℕ) → holes (xs ++ x ∷ []) ≡ holes xs ++ None ∷ []
holes-push [] x = refl
holes-push (y ∷ xs) x = ap (λ os. None ∷ os) (holes-push xs x)

-- what is lacked of a list, by its parts
pub lacked-push : (n : List (ℕ × ℕ)) (xs : List ℕ) (x : ℕ) → length (lacked n (xs ++ x ∷ [])) ≡ length (lacked n xs) + length (lacked n (x ∷ []))
lacked-push n [] x = omega arith
lacked-push n (y ∷ xs) x = elim (cases_Bool (is_some (value_of n y))) [
  | inl known ↦ rw known (lacked-push n xs x)
  | inr absent ↦ rw absent (omega (arith, lacked-push n xs x))
]

pub lacked_step : (n m : List (ℕ × ℕ)) (i : ℕ) (p : ℕ × ℕ) → i < length m → p ≡ get_or m i p → length (lacked n (values (take (i + 1) m))) ≡ length (lacked n (values (take i m))) + length (lacked n (p.1 ∷ []))
lacked_step n m i p lt is =
    let more : take (i + 1) m ≡ take i m ++ p ∷ [] = take_more m i p lt ∙ ap (λ q. take i m ++ q ∷ []) (sym is) in
    ap (λ l. length (lacked n (values l))) more ∙ (ap (λ l. length (lacked n l)) (values-push (take i m) p) ∙ lacked-push n (values (take i m)) p.1)

-- what a part of a map lacks is no more than what the whole lacks
pub lacked_part : (n m : List (ℕ × ℕ)) (i : ℕ) → length (lacked n (values (take i m))) ≤ length (lacked n (values m))
lacked_part n m zero = omega arith
lacked_part n [] (suc i) = omega arith
lacked_part n (p ∷ m) (suc i) = elim (cases_Bool (is_some (value_of n p.1))) [
  | inl known ↦ rw known (lacked_part n m i)
  | inr absent ↦ rw absent (omega (arith, lacked_part n m i))
]

-- so what one more value takes is within what the whole map takes, and what lacks for it lacks for the whole
pub completing_takes : (xs n : List (ℕ × ℕ)) (i : ℕ) (p : ℕ × ℕ) (t u v : Table) → i < length xs → p ≡ get_or xs i p → TakesForLacked n (values (take i xs)) (both_values xs n) t u → TakesForLacked n (p.1 ∷ []) (both_values xs n) u v → TakesToComplete xs n t v
completing_takes xs n i p t u v lt is so_far last = omega (arith, so_far, last, lacked_step n xs i p lt is, lacked_part n xs (i + 1))

pub completing_lacks : (xs n : List (ℕ × ℕ)) (i : ℕ) (p : ℕ × ℕ) (t u : Table) → i < length xs → p ≡ get_or xs i p → TakesForLacked n (values (take i xs)) (both_values xs n) t u → LacksForLacked n (p.1 ∷ []) (both_values xs n) u → LacksToComplete xs n t
completing_lacks xs n i p t u lt is so_far lacks = omega (arith, so_far, lacks, lacked_step n xs i p lt is, lacked_part n xs (i + 1))

pub completed_step : (used : List ℕ) (low mid high : ℕ) (xs n items new : List (ℕ × ℕ)) (i : ℕ) (p : ℕ × ℕ) (v : ℕ) → i < length xs → p ≡ get_or xs i p → new ≡ items ++ (p.0, v) ∷ [] → keys items ≡ keys (take i xs) → AreFilled used low mid (sent_on (take i xs) n) (values items) → IsFilled mid high used (value_of n p.1) v → record { keys : keys new ≡ keys (take (i + 1) xs); values : AreFilled used low high (sent_on (take (i + 1) xs) n) (values new) }
completed_step used low mid high xs n items new i p v lt is pushed ks filled last =
    let more : take (i + 1) xs ≡ take i xs ++ p ∷ [] = take_more xs i p lt ∙ ap (λ q. take i xs ++ q ∷ []) (sym is) in
    let os : sent_on (take (i + 1) xs) n ≡ sent_on (take i xs) n ++ value_of n p.1 ∷ [] = ap (λ m. sent_on m n) more ∙ sent_on-push (take i xs) n p in
    let ss : values new ≡ values items ++ v ∷ [] = ap values pushed ∙ values-push items (p.0, v) in
    let whole = AreFilled-push used low mid high (sent_on (take i xs) n) (values items) (value_of n p.1) v filled last in
    record {
      keys = ap keys pushed ∙ (keys-push items (p.0, v) ∙ (ap (λ l. l ++ p.0 ∷ []) ks ∙ (sym (keys-push (take i xs) p) ∙ ap keys (sym more))));
      values = subst (λ l. AreFilled used low high l (values new)) (sym os) (subst (AreFilled used low high (sent_on (take i xs) n ++ value_of n p.1 ∷ [])) (sym ss) whole);
    }

pub from_fresh_step : (used : List ℕ) (low mid high : ℕ) (xs : List ℕ) (items new : List (ℕ × ℕ)) (i x s : ℕ) → i < length xs → x ≡ get_or xs i x → new ≡ items ++ (s, x) ∷ [] → values items ≡ take i xs → AreFilled used low mid (holes (take i xs)) (keys items) → IsFreshFrom mid high used s → record { keys : AreFilled used low high (holes (take (i + 1) xs)) (keys new); values : values new ≡ take (i + 1) xs }
from_fresh_step used low mid high xs items new i x s lt is pushed vs filled last =
    let more : take (i + 1) xs ≡ take i xs ++ x ∷ [] = take_more xs i x lt ∙ ap (λ y. take i xs ++ y ∷ []) (sym is) in
    let os : holes (take (i + 1) xs) ≡ holes (take i xs) ++ None ∷ [] = ap holes more ∙ holes-push (take i xs) x in
    let ss : keys new ≡ keys items ++ s ∷ [] = ap keys pushed ∙ keys-push items (s, x) in
    let whole = AreFilled-push used low mid high (holes (take i xs)) (keys items) None s filled last in
    record {
      keys = subst (λ l. AreFilled used low high l (keys new)) (sym os) (subst (AreFilled used low high (holes (take i xs) ++ None ∷ [])) (sym ss) whole);
      values = ap values pushed ∙ (values-push items (s, x) ∙ (ap (λ l. l ++ x ∷ []) vs ∙ sym more));
    }
