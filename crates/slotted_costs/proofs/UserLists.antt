-- The lists of users, as sources are added.
use Rattle.std.proofs.Common.{◌≡◌, ◌<◌, ◌≤◌, ℕ, zero, suc, ◌+◌, List, [], ◌∷◌, ◌++◌, length, map, take, get_or, Some, None, sym, ◌∙◌, ap, refl, subst, inl, inr, arith}
use Rattle.std.specs.Prelude.{nat_eq, set, Option, slice_index_or}
use Rattle.std.proofs.lemmas.Bool.{cases_eq, cases_lt}
use Rattle.std.proofs.lemmas.List.{length-set, get_or-set_same, get_or-set_other, map-append, take_more}
use Rattle.std.proofs.lemmas.List.{length-map}
use Rattle.std.proofs.Math.ListN.{get_or-append}
use Rattle.std.proofs.Math.Seq.{get_or-append_seam}
use Rattle.slotted_nodes.specs.Form.{Form, children}
use Rattle.slotted_model.proofs.Data.Options.{None-Some}
use Rattle.slotted_hashcons.specs.Filed.{Filing, filed_of}
use Rattle.slotted_hashcons.proofs.KeyChildren.{key_children-read}
use Rattle.slotted_costs.specs.Counts.{times, one_if, only_if, UsesMore, AreUsers, AreCounts, AreKeysOf, IsKeyOf}
use Rattle.slotted_costs.specs.Prices.{children_of, filing_children}
use Rattle.slotted_costs.proofs.Counting.{one-same, one-other, only-same, only-other, only-one, only-sum, times-append, times-more}

pub uses-none : (source : ℕ) (us : List (List ℕ)) → UsesMore [] source us us
uses-none source us = record {
  lists = refl;
  each = λ c s lt. elim (cases_eq source s) [
    | inl e ↦ let o : only_if (nat_eq source s) 0 ≡ 0 = only-same s source 0 e in omega arith
    | inr n ↦ let o : only_if (nat_eq source s) 0 ≡ 0 = only-other s source 0 n in omega arith
  ];
}

-- a class that has no list
pub uses-past : (source : ℕ) (us : List (List ℕ)) (d : ℕ) → length us ≤ d → UsesMore (d ∷ []) source us us
uses-past source us d past = record {
  lists = refl;
  each = λ c s lt.
      let o : one_if (nat_eq d c) ≡ 0 = one-other c d (λ e. absurd (omega (arith, e))) in
      let m : times c (d ∷ []) ≡ 0 = omega arith in
      (uses-none source us).each c s lt ∙ ap (λ n. times s (slice_index_or us c []) + only_if (nat_eq source s) n) (sym m);
}

-- a class that has one
pub uses-one : (source : ℕ) (us : List (List ℕ)) (d : ℕ) → d < length us → UsesMore (d ∷ []) source us (set us d (slice_index_or us d [] ++ source ∷ []))
uses-one source us d within = record {
  lists = length-set us d _;
  each = λ c s lt. elim (cases_eq c d) [
    | inl e ↦
        let at : slice_index_or (set us d (slice_index_or us d [] ++ source ∷ [])) c [] ≡ slice_index_or us c [] ++ source ∷ [] =
        ap (λ n. slice_index_or (set us d (slice_index_or us d [] ++ source ∷ [])) n []) e
        ∙ (get_or-set_same us d (slice_index_or us d [] ++ source ∷ []) [] within ∙ ap (λ n. slice_index_or us n [] ++ source ∷ []) (sym e)) in
        let one : one_if (nat_eq d c) ≡ 1 = one-same c d (sym e) in
        let all : times c (d ∷ []) ≡ 1 = omega arith in
        let new : times s (slice_index_or us c [] ++ source ∷ []) ≡ times s (slice_index_or us c []) + one_if (nat_eq source s) = times-more s (slice_index_or us c []) source in
        let only : only_if (nat_eq source s) (times c (d ∷ [])) ≡ one_if (nat_eq source s) = ap (only_if (nat_eq source s)) all ∙ only-one (nat_eq source s) in
        ap (times s) at ∙ omega arith
    | inr n ↦
        let none : one_if (nat_eq d c) ≡ 0 = one-other c d (λ q. n (sym q)) in
        let all : times c (d ∷ []) ≡ 0 = omega arith in
        ap (times s) (get_or-set_other us d c (slice_index_or us d [] ++ source ∷ []) [] n)
        ∙ ((uses-none source us).each c s lt ∙ ap (λ m. times s (slice_index_or us c []) + only_if (nat_eq source s) m) (sym all))
  ];
}

-- one class after others
pub uses-next : (cs : List ℕ) (source d : ℕ) (us vs ws : List (List ℕ)) → UsesMore cs source us vs → UsesMore (d ∷ []) source vs ws → UsesMore (cs ++ d ∷ []) source us ws
uses-next cs source d us vs ws h k = record {
  lists = k.lists ∙ h.lists;
  each = λ c s lt.
      let a : times s (slice_index_or vs c []) ≡ times s (slice_index_or us c []) + only_if (nat_eq source s) (times c cs) = h.each c s lt in
      let b : times s (slice_index_or ws c []) ≡ times s (slice_index_or vs c []) + only_if (nat_eq source s) (times c (d ∷ [])) = k.each c s (omega (arith, h.lists)) in
      let e : only_if (nat_eq source s) (times c (cs ++ d ∷ [])) ≡ only_if (nat_eq source s) (times c cs) + only_if (nat_eq source s) (times c (d ∷ [])) =
      ap (only_if (nat_eq source s)) (times-append c cs (d ∷ [])) ∙ only-sum (nat_eq source s) (times c cs) (times c (d ∷ [])) in
      omega arith;
}

-- the users of the rows before one
pub record UsersBefore (v : List (Option Filing)) (i : ℕ) (users : List (List ℕ)) : Type 0 where
  pub lists : length users ≡ length v
  pub before : (c s : ℕ) → c < length v → s < i → times s (slice_index_or users c []) ≡ times c (children_of v s)
  pub later : (c s : ℕ) → c < length v → i ≤ s → times s (slice_index_or users c []) ≡ 0

pub users-start : (v : List (Option Filing)) (us : List (List ℕ)) → length us ≡ length v → ((c : ℕ) → slice_index_or us c [] ≡ []) → UsersBefore v 0 us
users-start v us n none = record {
  lists = n;
  before = λ c s lt less. absurd (omega arith);
  later = λ c s lt le. ap (times s) (none c);
}

pub users-next : (v : List (Option Filing)) (i : ℕ) (us vs : List (List ℕ)) → UsersBefore v i us → UsesMore (children_of v i) i us vs → UsersBefore v (i + 1) vs
users-next v i us vs h m = record {
  lists = m.lists ∙ h.lists;
  before = λ c s lt less. elim (cases_eq i s) [
    | inl e ↦
        let k : times s (slice_index_or vs c []) ≡ times s (slice_index_or us c []) + only_if (nat_eq i s) (times c (children_of v i)) = m.each c s (omega (arith, h.lists)) in
        let o : only_if (nat_eq i s) (times c (children_of v i)) ≡ times c (children_of v i) = only-same s i (times c (children_of v i)) e in
        let z : times s (slice_index_or us c []) ≡ 0 = h.later c s lt (omega (arith, e)) in
        let j : times c (children_of v i) ≡ times c (children_of v s) = ap (λ n. times c (children_of v n)) e in
        omega arith
    | inr n ↦
        let k : times s (slice_index_or vs c []) ≡ times s (slice_index_or us c []) + only_if (nat_eq i s) (times c (children_of v i)) = m.each c s (omega (arith, h.lists)) in
        let o : only_if (nat_eq i s) (times c (children_of v i)) ≡ 0 = only-other s i (times c (children_of v i)) n in
        let z : times s (slice_index_or us c []) ≡ times c (children_of v s) = h.before c s lt (omega (arith, n)) in
        omega arith
  ];
  later = λ c s lt le.
      let k : times s (slice_index_or vs c []) ≡ times s (slice_index_or us c []) + only_if (nat_eq i s) (times c (children_of v i)) = m.each c s (omega (arith, h.lists)) in
      let o : only_if (nat_eq i s) (times c (children_of v i)) ≡ 0 = only-other s i (times c (children_of v i)) (λ e. absurd (omega (arith, e))) in
      let z : times s (slice_index_or us c []) ≡ 0 = h.later c s lt (omega arith) in
      omega arith;
}

past-none : (v : List (Option Filing)) (s : ℕ) → length v ≤ s → children_of v s ≡ []
past-none [] s le = refl
past-none (x ∷ v) zero le = absurd (omega arith)
past-none (x ∷ v) (suc s) le = past-none v s (omega arith)

pub users-all : (v : List (Option Filing)) (i : ℕ) (us : List (List ℕ)) → length v ≤ i → UsersBefore v i us → AreUsers v us
users-all v i us past h = record {
  lists = h.lists;
  each = λ c s lt. elim (cases_lt s i) [
    | inl less ↦ h.before c s lt less
    | inr le ↦ h.later c s lt le ∙ sym (ap (times c) (past-none v s (omega arith)))
  ];
}

get_or_past : (xs : List ℕ) (i d : ℕ) → length xs ≤ i → slice_index_or xs i d ≡ d
get_or_past [] i d le = refl
get_or_past (x ∷ xs) zero d le = absurd (omega arith)
get_or_past (x ∷ xs) (suc i) d le = get_or_past xs i d (omega arith)

-- the counts of the rows before one
pub counts-next : (v : List (Option Filing)) (n : ℕ) (counts more : List ℕ) (x : ℕ) → length counts ≡ n → ((i : ℕ) → i < n → slice_index_or counts i 0 ≡ length (children_of v i)) → x ≡ length (children_of v n) → more ≡ counts ++ x ∷ [] →
    (i : ℕ) → i < n + 1 → slice_index_or more i 0 ≡ length (children_of v i)
counts-next v n counts more x l h e m i lt = ap (λ xs. slice_index_or xs i 0) m ∙ (elim (cases_eq i n) [
  | inl q ↦ ap (λ j. slice_index_or (counts ++ x ∷ []) j 0) (q ∙ sym l) ∙ (get_or-append_seam counts x [] 0 ∙ (e ∙ ap (λ j. length (children_of v j)) (sym q)))
  | inr d ↦ get_or-append counts (x ∷ []) 0 i (omega (arith, d)) ∙ h i (omega (arith, d))
])

pub counts-all : (v : List (Option Filing)) (n : ℕ) (counts : List ℕ) → length counts ≡ n → n ≡ length v → ((i : ℕ) → i < n → slice_index_or counts i 0 ≡ length (children_of v i)) → AreCounts v counts
counts-all v n counts l e h = record {
  lists = l ∙ e;
  each = λ i. elim (cases_lt i n) [
    | inl lt ↦ h i lt
    | inr le ↦ get_or_past counts i 0 (omega arith) ∙ sym (ap length (past-none v i (omega arith)))
  ];
}

pub keys-next : {L : Type 0} (form : L → Form) (v : List (Option Filing)) (n : ℕ) → ((i : ℕ) → i < n → IsKeyOf form (filed_of v i)) → IsKeyOf form (filed_of v n) → (i : ℕ) → i < n + 1 → IsKeyOf form (filed_of v i)
keys-next form v n h k i lt = elim (cases_eq i n) [
  | inl q ↦ subst (λ j. IsKeyOf form (filed_of v j)) (sym q) k
  | inr d ↦ h i (omega (arith, d))
]

none-filed : (v : List (Option Filing)) (s : ℕ) → length v ≤ s → filed_of v s ≡ None
none-filed [] s le = refl
none-filed (x ∷ v) zero le = absurd (omega arith)
none-filed (x ∷ v) (suc s) le = none-filed v s (omega arith)

pub keys-all : {L : Type 0} (form : L → Form) (v : List (Option Filing)) (n : ℕ) → length v ≤ n → ((i : ℕ) → i < n → IsKeyOf form (filed_of v i)) → AreKeysOf form v
keys-all form v n past h i e is = elim (cases_lt i n) [
  | inl lt ↦ h i lt e is
  | inr le ↦ absurd (None-Some e (sym (none-filed v i (omega arith)) ∙ is))
]

pub key-counted : (v : List (Option Filing)) (i : ℕ) (f : Form) (m : List (ℕ × ℕ)) → Some (f, m) ≡ filed_of v i → length (children f.tree) ≡ length (children_of v i)
key-counted v i f m e =
    sym (length-map (children f.tree) (λ (p : ℕ × List ℕ). p.0)) ∙ (sym (ap length (key_children-read f)) ∙ ap (λ o. length (filing_children o)) e)

-- the children of a node, as they are read
pub uses-read : {A : Type 0} (f : A → ℕ) (ws : List A) (i : ℕ) (d : A) (source : ℕ) (us vs : List (List ℕ)) → i < length ws → UsesMore (map f (take i ws) ++ f (get_or ws i d) ∷ []) source us vs → UsesMore (map f (take (i + 1) ws)) source us vs
uses-read f ws i d source us vs lt h =
    subst (λ cs. UsesMore cs source us vs) (sym (ap (map f) (take_more ws i d lt) ∙ map-append f (take i ws) (get_or ws i d ∷ []))) h
