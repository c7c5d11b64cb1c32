-- What is seen at a place can be read off the places before it.
use Rattle.std.proofs.Common.{◌≡◌, ℕ, suc, zero, ◌+◌, ◌-◌, ◌<◌, ◌≤◌, List, [], ◌∷◌, ◌++◌, length, take, drop, refl, slice_index, slice_index_or, ap, ◌∙◌, sym, append_assoc, arith, length-append, inl, inr}
use Rattle.std.specs.Prelude.{Some, None, Option, false, nat_lt, cond, IsTrue, ◌↔◌}
use Rattle.std.proofs.lemmas.Bool.{false≢true, ltb-true, lt-ltb, le-ltb, cases_lt}
use Rattle.std.proofs.lemmas.List.{drop_more, get_or-take, get_or-drop, drop-drop, get_or_append_left, get_or-append_right}
use Rattle.slotted_lists.proofs.Lists.{drop-drop_one}
use Rattle.slotted_lists.proofs.Booleans.{cond-less, cond-not_less}
use Rattle.slotted_nodes.specs.Form.{Tree, leaf, own, child, bind, scopes, children, child_place, end_at, scope_end_of}
use Rattle.slotted_languages.specs.Outline.{outlined, marks}
use Rattle.slotted_languages.proofs.Outlines.{length-marks}
use Rattle.slotted_outlines.specs.Seen.{owns, stacks, opened, own_at, IsOpen}
use Rattle.slotted_outlines.proofs.Seen.{length-owns, length-stacks}

index_next : (i : ℕ) (xs : List ℕ) → slice_index (drop 1 xs) i ≡ slice_index xs (suc i)
index_next i [] = refl
index_next i (x ∷ xs) = refl

-- the binders above a place are among those before it
pub opened-take : (i : ℕ) (s : List (Option ℕ)) (xs bs : List ℕ) (n : ℕ) → i ≤ n → opened i s (take n xs) bs ≡ opened i s xs bs
opened-take zero s xs bs n h = refl
opened-take (suc i) [] xs bs n h = refl
opened-take (suc i) (None ∷ s) xs bs zero h = absurd (omega arith)
opened-take (suc i) (None ∷ s) [] bs (suc n) h = refl
opened-take (suc i) (None ∷ s) (x ∷ xs) bs (suc n) h = opened-take i s xs bs n (omega arith)
opened-take (suc i) (Some m ∷ s) xs bs zero h = absurd (omega arith)
opened-take (suc i) (Some m ∷ s) [] bs (suc n) h = refl
opened-take (suc i) (Some m ∷ s) (x ∷ xs) bs (suc n) h = opened-take i s xs (cond (nat_lt i m) (x ∷ bs) bs) n (omega arith)

-- past an outline its binders are closed
pub opened-past : (u : Tree) (s : List (Option ℕ)) (xs bs : List ℕ) (i j : ℕ) → j ≡ length (scopes (outlined u)) + i → opened j (scopes (outlined u) ++ s) xs bs ≡ opened i s (drop (length (scopes (outlined u))) xs) bs
opened-past leaf s xs bs i j e = ap (λ k. opened k s xs bs) (omega arith)
opened-past (own r) s xs bs i zero e = absurd (omega arith)
opened-past (own r) s xs bs i (suc j) e =
    opened-past r s (drop 1 xs) bs i j (omega arith) ∙ ap (λ ys. opened i s ys bs) (drop-drop_one (length (scopes (outlined r))) xs)
opened-past (child k ks r) s xs bs i zero e = absurd (omega arith)
opened-past (child k ks r) s xs bs i (suc j) e =
    opened-past r s (drop 1 xs) bs i j (omega arith) ∙ ap (λ ys. opened i s ys bs) (drop-drop_one (length (scopes (outlined r))) xs)
opened-past (bind u r) s xs bs i zero e = absurd (omega arith)
opened-past (bind u r) s xs bs i (suc j) e =
    let n = length (scopes (outlined u)) in
    let m = length (scopes (outlined r)) in
    let l = length-append (scopes (outlined u)) (scopes (outlined r)) in
    let q : suc (n + m) ≡ length (scopes (outlined (bind u r))) = omega arith in
    ap (opened j ((scopes (outlined u) ++ scopes (outlined r)) ++ s) (drop 1 xs)) (cond-not_less (slice_index xs 0) bs j n (omega arith))
    ∙ (rw (append_assoc (scopes (outlined u)) (scopes (outlined r)) s)
    (opened-past u (scopes (outlined r) ++ s) (drop 1 xs) bs (m + i) j (omega arith)
    ∙ (opened-past r s (drop n (drop 1 xs)) bs i (m + i) refl
    ∙ ap (λ ys. opened i s ys bs) (drop-drop m n (drop 1 xs) ∙ (drop-drop_one (n + m) xs ∙ ap (λ k. drop k xs) q)))))

-- the binders above a child
pub stack_at : (u : Tree) (s : List (Option ℕ)) (xs bs : List ℕ) (k : ℕ) (d : List ℕ) → k < length (children (outlined u)) → slice_index_or (stacks bs u xs) k d ≡ opened (child_place (outlined u) k) (scopes (outlined u) ++ s) xs bs
stack_at leaf s xs bs k d h = absurd (omega arith)
stack_at (own r) s xs bs k d h = stack_at r s (drop 1 xs) bs k d h
stack_at (child i ks r) s xs bs zero d h = refl
stack_at (child i ks r) s xs bs (suc k) d h =
    stack_at r s (drop 1 xs) bs k d (omega arith)
    ∙ ap (λ p. opened p (None ∷ (scopes (outlined r) ++ s)) xs bs) (let e : suc (child_place (outlined r) k) ≡ 1 + child_place (outlined r) k = omega arith in e)
stack_at (bind u r) s xs bs k d h =
    let n = length (scopes (outlined u)) in
    let m = length (children (outlined u)) in
    let x = slice_index xs 0 in
    let su = stacks (x ∷ bs) u (take n (drop 1 xs)) in
    let sr = stacks bs r (drop n (drop 1 xs)) in
    let l = length-stacks (x ∷ bs) u (take n (drop 1 xs)) in
    let c = length-append (children (outlined u)) (children (outlined r)) in
    let t = Some n ∷ ((scopes (outlined u) ++ scopes (outlined r)) ++ s) in
    elim (cases_lt k m) [
      | inl b ↦
          let p = child_place (outlined u) k in
          let w : p < n = single u k b in
          get_or_append_left su sr d k (omega arith)
          ∙ (stack_at u (scopes (outlined r) ++ s) (take n (drop 1 xs)) (x ∷ bs) k d b
          ∙ (opened-take p (scopes (outlined u) ++ (scopes (outlined r) ++ s)) (drop 1 xs) (x ∷ bs) n (omega arith)
          ∙ (ap (λ z. opened p z (drop 1 xs) (x ∷ bs)) (sym (append_assoc (scopes (outlined u)) (scopes (outlined r)) s))
          ∙ (ap (opened p ((scopes (outlined u) ++ scopes (outlined r)) ++ s) (drop 1 xs)) (sym (cond-less x bs p n w))
          ∙ ap (λ z. opened (cond z (suc p) (suc (n + child_place (outlined r) (k - m)))) t xs bs) (sym (lt-ltb k m b))))))
      | inr b ↦
          let p = child_place (outlined r) (k - m) in
          get_or-append_right su sr m k d l b
          ∙ (stack_at r s (drop n (drop 1 xs)) bs (k - m) d (omega arith)
          ∙ (sym (opened-past u (scopes (outlined r) ++ s) (drop 1 xs) bs p (n + p) refl)
          ∙ (ap (λ z. opened (n + p) z (drop 1 xs) bs) (sym (append_assoc (scopes (outlined u)) (scopes (outlined r)) s))
          ∙ (ap (opened (n + p) ((scopes (outlined u) ++ scopes (outlined r)) ++ s) (drop 1 xs)) (sym (cond-not_less x bs (n + p) n (omega arith)))
          ∙ ap (λ z. opened (cond z (suc (child_place (outlined u) k)) (suc (n + p))) t xs bs) (sym (le-ltb k m b))))))
    ]
  where
    -- a child of an outline has one place
    single : (u : Tree) (k : ℕ) → k < length (children (outlined u)) → child_place (outlined u) k < length (scopes (outlined u))
    single leaf k h = absurd (omega arith)
    single (own r) k h = omega (arith, single r k h)
    single (child i ks r) zero h = omega arith
    single (child i ks r) (suc k) h = omega (arith, single r k (omega arith))
    single (bind u r) k h =
        let c = length-append (children (outlined u)) (children (outlined r)) in
        let l = length-append (scopes (outlined u)) (scopes (outlined r)) in
        elim (cases_lt k (length (children (outlined u)))) [
          | inl b ↦ rw (lt-ltb k (length (children (outlined u))) b) (omega (arith, single u k b))
          | inr b ↦ rw (le-ltb k (length (children (outlined u))) b) (omega (arith, single r (k - length (children (outlined u))) (omega arith)))
        ]

-- what is seen of a place's own name
pub own_seen_at : (u : Tree) (s : List (Option ℕ)) (xs bs : List ℕ) (i : ℕ) → i < length (scopes (outlined u)) → slice_index (owns bs u xs) i ≡ own_at (slice_index (marks u) i) (slice_index_or (scopes (outlined u)) i None) (opened i (scopes (outlined u) ++ s) xs bs) (slice_index xs i)
own_seen_at leaf s xs bs i h = absurd (omega arith)
own_seen_at (own r) s xs bs zero h = refl
own_seen_at (own r) s xs bs (suc i) h =
    own_seen_at r s (drop 1 xs) bs i (omega arith)
    ∙ ap (own_at (slice_index (marks r) i) (slice_index_or (scopes (outlined r)) i None) (opened i (scopes (outlined r) ++ s) (drop 1 xs) bs)) (index_next i xs)
own_seen_at (child k ks r) s xs bs zero h = refl
own_seen_at (child k ks r) s xs bs (suc i) h =
    own_seen_at r s (drop 1 xs) bs i (omega arith)
    ∙ ap (own_at (slice_index (marks r) i) (slice_index_or (scopes (outlined r)) i None) (opened i (scopes (outlined r) ++ s) (drop 1 xs) bs)) (index_next i xs)
own_seen_at (bind u r) s xs bs zero h = refl
own_seen_at (bind u r) s xs bs (suc i) h =
    let n = length (scopes (outlined u)) in
    let x = slice_index xs 0 in
    let ou = owns (x ∷ bs) u (take n (drop 1 xs)) in
    let rs = owns bs r (drop n (drop 1 xs)) in
    let l = length-append (scopes (outlined u)) (scopes (outlined r)) in
    let su = scopes (outlined u) in
    let sr = scopes (outlined r) in
    elim (cases_lt i n) [
      | inl b ↦
          let o : opened i (su ++ (sr ++ s)) (take n (drop 1 xs)) (x ∷ bs) ≡ opened (suc i) (Some n ∷ ((su ++ sr) ++ s)) xs bs =
          opened-take i (su ++ (sr ++ s)) (drop 1 xs) (x ∷ bs) n (omega arith)
          ∙ (ap (λ z. opened i z (drop 1 xs) (x ∷ bs)) (sym (append_assoc su sr s)) ∙ ap (opened i ((su ++ sr) ++ s) (drop 1 xs)) (sym (cond-less x bs i n b))) in
          get_or_append_left ou rs 0 i (omega (arith, length-owns (x ∷ bs) u (take n (drop 1 xs))))
          ∙ (own_seen_at u (sr ++ s) (take n (drop 1 xs)) (x ∷ bs) i b
          ∙ (λ j. own_at (sym (get_or_append_left (marks u) (marks r) 0 i (omega (arith, length-marks u))) j) (sym (get_or_append_left su sr None i b) j) (o j) ((get_or-take n (drop 1 xs) i 0 b ∙ index_next i xs) j)))
      | inr b ↦
          let o : opened (i - n) (sr ++ s) (drop n (drop 1 xs)) bs ≡ opened (suc i) (Some n ∷ ((su ++ sr) ++ s)) xs bs =
          sym (opened-past u (sr ++ s) (drop 1 xs) bs (i - n) i (omega arith))
          ∙ (ap (λ z. opened i z (drop 1 xs) bs) (sym (append_assoc su sr s)) ∙ ap (opened i ((su ++ sr) ++ s) (drop 1 xs)) (sym (cond-not_less x bs i n b))) in
          let q : n + (i - n) ≡ i = omega arith in
          get_or-append_right ou rs n i 0 (length-owns (x ∷ bs) u (take n (drop 1 xs))) b
          ∙ (own_seen_at r s (drop n (drop 1 xs)) bs (i - n) (omega arith)
          ∙ (λ j. own_at (sym (get_or-append_right (marks u) (marks r) n i 0 (length-marks u) b) j) (sym (get_or-append_right su sr n i None refl b) j) (o j) ((get_or-drop n (drop 1 xs) (i - n) 0 ∙ (ap (slice_index (drop 1 xs)) q ∙ index_next i xs)) j)))
    ]

-- what a place does to the binders above a later one
abbrev turned : ℕ → Option ℕ → ℕ → List ℕ → List ℕ
turned r None x bs = bs
turned r (Some n) x bs = cond (nat_lt r n) (x ∷ bs) bs

opened_turn : (i at : ℕ) (s : List (Option ℕ)) (xs bs : List ℕ) → i < at → at ≤ length s → opened (at - i) (drop i s) (drop i xs) bs ≡ opened (at - (i + 1)) (drop (i + 1) s) (drop (i + 1) xs) (turned (at - (i + 1)) (slice_index_or s i None) (slice_index xs i) bs)
opened_turn i at s xs bs h k =
    let m = at - (i + 1) in
    let e : at - i ≡ suc m = omega arith in
    let f : drop 1 (drop i xs) ≡ drop (i + 1) xs = drop-drop 1 i xs in
    let g : slice_index (drop i xs) 0 ≡ slice_index xs i = get_or-drop i xs 0 0 ∙ ap (slice_index xs) (let z : i + 0 ≡ i = omega arith in z) in
    (λ j. opened (e j) (drop_more s i None (omega arith) j) (drop i xs) bs)
    ∙ (at_head m (slice_index_or s i None) (drop (i + 1) s) (drop i xs) bs ∙ (λ j. opened m (drop (i + 1) s) (f j) (turned m (slice_index_or s i None) (g j) bs)))
  where
    at_head : (m : ℕ) (o : Option ℕ) (s : List (Option ℕ)) (xs bs : List ℕ) → opened (suc m) (o ∷ s) xs bs ≡ opened m s (drop 1 xs) (turned m o (slice_index xs 0) bs)
    at_head m None s xs bs = refl
    at_head m (Some n) s xs bs = refl

-- the same by whether the place is a binder whose scope has the later one
module _ (i at : ℕ) (s : List (Option ℕ)) (xs bs : List ℕ) (before : i < at) (within : at ≤ length s) where
  pub opened-shut : (IsOpen s i at → ⊥) → (cs : List ℕ) {os : List ℕ} → cs ≡ bs → opened (at - i) (drop i s) (drop i xs) bs ≡ os → opened (at - (i + 1)) (drop (i + 1) s) (drop (i + 1) xs) cs ≡ os
  opened-shut h cs e p =
      ap (opened (at - (i + 1)) (drop (i + 1) s) (drop (i + 1) xs)) (e ∙ sym (shut (slice_index_or s i None) h)) ∙ (sym (opened_turn i at s xs bs before within) ∙ p)
    where
      shut : (o : Option ℕ) → ((end : ℕ) × (end_at i o ≡ Some end) × (at < end) → ⊥) → turned (at - (i + 1)) o (slice_index xs i) bs ≡ bs
      shut None h = refl
      shut (Some n) h = elim (cases_lt at (i + 1 + n)) [
        | inl l ↦ absurd (h (i + 1 + n, refl, l))
        | inr l ↦ cond-not_less (slice_index xs i) bs (at - (i + 1)) n (omega arith)
      ]

  pub opened-open : IsOpen s i at → (cs : List ℕ) {os : List ℕ} → cs ≡ slice_index xs i ∷ bs → opened (at - i) (drop i s) (drop i xs) bs ≡ os → opened (at - (i + 1)) (drop (i + 1) s) (drop (i + 1) xs) cs ≡ os
  opened-open h cs e p =
      ap (opened (at - (i + 1)) (drop (i + 1) s) (drop (i + 1) xs)) (e ∙ sym (open_in (slice_index_or s i None) h)) ∙ (sym (opened_turn i at s xs bs before within) ∙ p)
    where
      open_in : (o : Option ℕ) → (end : ℕ) × (end_at i o ≡ Some end) × (at < end) → turned (at - (i + 1)) o (slice_index xs i) bs ≡ slice_index xs i ∷ bs
      open_in None h = let e : ◌≡◌ {A = Option ℕ} None (Some h.0) = h.1 in cc
      open_in (Some n) h =
          let e : ◌≡◌ {A = Option ℕ} (Some (i + 1 + n)) (Some h.0) = h.1 in
          let f : i + 1 + n ≡ h.0 = cc in
          let l = h.2 in
          cond-less (slice_index xs i) bs (at - (i + 1)) n (omega arith)

-- a binder whose scope ends there is open before the end, and what is no binder is not open
pub open_before : (s : List (Option ℕ)) (i at end : ℕ) → Some end ≡ scope_end_of s i → IsTrue (nat_lt at end) ↔ IsOpen s i at
open_before s i at end e = (
  λ t. (end, sym e, ltb-true at end t),
  λ h.
      let p : Some end ≡ Some h.0 = e ∙ h.1 in
      let same : end ≡ h.0 = cc in
      lt-ltb at end (omega (arith, same, h.2)),
)

pub open_none : (s : List (Option ℕ)) (i at : ℕ) → None ≡ scope_end_of s i → IsTrue false ↔ IsOpen s i at
open_none s i at e = (
  λ t. absurd (false≢true t),
  λ h.
      let p : None ≡ Some h.0 = e ∙ h.1 in
      cc,
)
