-- The two maps of a correspondence whose names are numbered as they first occur.
use Rattle.std.proofs.Common.{◌≡◌, ◌↔◌, ℕ, suc, ◌+◌, ◌<◌, ◌≤◌, List, [], ◌∷◌, Option, Some, None, sym, ◌∙◌, ap, refl, subst, inl, inr, arith}
use Rattle.std.specs.Prelude.{Contains, map, length, unwrap_or, is_some, cond, ◌++◌, ◌⊎◌}
use Rattle.std.specs.Map.{keys_of, values_of}
use Rattle.std.proofs.lemmas.Bool.{cases_eq}
use Rattle.std.proofs.lemmas.List.Elements.{Contains-append_left, Contains-append_right}
use Rattle.slotted_lists.proofs.Contained.{contains_head, contains_tail, contains_cases, Contains-nil}
use Rattle.slotted_theory.specs.Renaming.{IsInjective}
use Rattle.slotted_theory.specs.FiniteMaps.{value_of, with_values}
use Rattle.slotted_theory.proofs.Bijections.{to-injective}
use Rattle.slotted_model.specs.Correspondence.{AllDifferent, IsFullMap, flipped, composite, same_names, IsPartialInjection, IsMatch, numbered_from, numbered_after, numbered, IsNumberedAfter, IsNumberedForm}
use Rattle.slotted_model.proofs.Correspondences.Pairs.{Contains-flipped, Contains-of_flipped, Contains-value_of, value_of-found}
use Rattle.slotted_model.proofs.Correspondences.PartialInjections.{key_in_order, one_partner, composite-over, composite-by}
use Rattle.slotted_model.proofs.Correspondences.FullMaps.{full-in_order, full-name, full-one_slot, full-from, same_names-is, same_names-partial}
use Rattle.slotted_model.proofs.Correspondences.Matching.{same_names-bijection, match_iff}

-- the left side has the numbers from k on, each once
from-keys : (k : ℕ) (P : List ℕ) → keys_of (numbered_from k P) ≡ P
from-keys k [] = refl
from-keys k (s ∷ P) = ap (λ L. s ∷ L) (from-keys (suc k) P)

from-within : (k : ℕ) (P : List ℕ) (s x : ℕ) → Contains (numbered_from k P) (s, x) → (k ≤ x) × (x < k + length P)
from-within k [] s x c = absurd (Contains-nil (s, x) c)
from-within k (r ∷ P) s x c = elim (contains_cases (r, k) (numbered_from (suc k) P) (s, x) c) [
  | inl e ↦ let p : x ≡ k = ap (λ q. q.1) e in (omega arith, omega arith)
  | inr h ↦ let p : (suc k ≤ x) × (x < suc k + length P) = from-within (suc k) P s x h in (omega arith, omega arith)
]

from-once : (k : ℕ) (P : List ℕ) (s s' x : ℕ) → Contains (numbered_from k P) (s, x) → Contains (numbered_from k P) (s', x) → s ≡ s'
from-once k [] s s' x c d = absurd (Contains-nil (s, x) c)
from-once k (r ∷ P) s s' x c d = elim (contains_cases (r, k) (numbered_from (suc k) P) (s, x) c) [
  | inl e ↦ elim (contains_cases (r, k) (numbered_from (suc k) P) (s', x) d) [
    | inl f ↦ ap (λ q. q.0) e ∙ sym (ap (λ q. q.0) f)
    | inr h ↦ let p : x ≡ k = ap (λ q. q.1) e in let l : (suc k ≤ x) × (x < suc k + length P) = from-within (suc k) P s' x h in absurd (omega arith)
  ]
  | inr h ↦ elim (contains_cases (r, k) (numbered_from (suc k) P) (s', x) d) [
    | inl f ↦ let p : x ≡ k = ap (λ q. q.1) f in let l : (suc k ≤ x) × (x < suc k + length P) = from-within (suc k) P s x h in absurd (omega arith)
    | inr j ↦ from-once (suc k) P s s' x h j
  ]
]

pub from-full : (k : ℕ) (P : List ℕ) → AllDifferent P → IsFullMap P (numbered_from k P)
from-full k P d = full-from P (numbered_from k P) (from-keys k P) d (from-once k P)

-- numbers from k on, and then a list that goes on after them
from-numbered : (k : ℕ) (P ys : List ℕ) → IsNumberedAfter (k + length P) ys → IsNumberedAfter k (values_of (numbered_from k P) ++ ys)
from-numbered k [] ys h = subst (λ n. IsNumberedAfter n ys) (omega arith) h
from-numbered k (s ∷ P) ys h =
    let e : k + length (s ∷ P) ≡ suc k + length P = omega arith in
    inr (refl, from-numbered (suc k) P ys (subst (λ n. IsNumberedAfter n ys) e h))

-- the right side has what f says, and else numbers from k on
after-keys : (f : ℕ → Option ℕ) (k : ℕ) (Q : List ℕ) → keys_of (numbered_after f k Q) ≡ Q
after-keys f k [] = refl
after-keys f k (t ∷ Q) = ap (λ L. t ∷ L) (after-keys f (cond (is_some (f t)) k (suc k)) Q)

-- the next number that is new
next-above : (o : Option ℕ) (k : ℕ) → k ≤ cond (is_some o) k (suc k)
next-above None k = omega arith
next-above (Some v) k = omega arith

-- the number that is taken: the one said, or the new one, after which the next is greater
taken : (o : Option ℕ) (k : ℕ) → (o ≡ Some (unwrap_or o k)) ⊎ ((o ≡ None) × (unwrap_or o k ≡ k) × (cond (is_some o) k (suc k) ≡ suc k))
taken None k = inr (refl, refl, refl)
taken (Some v) k = inl refl

after-pair : (f : ℕ → Option ℕ) (k : ℕ) (Q : List ℕ) (t x : ℕ) → Contains (numbered_after f k Q) (t, x) → (f t ≡ Some x) ⊎ (k ≤ x)
after-pair f k [] t x c = absurd (Contains-nil (t, x) c)
after-pair f k (r ∷ Q) t x c = elim (contains_cases (r, unwrap_or (f r) k) (numbered_after f (cond (is_some (f r)) k (suc k)) Q) (t, x) c) [
  | inl e ↦
      let p : t ≡ r = ap (λ q. q.0) e in
      let v : x ≡ unwrap_or (f r) k = ap (λ q. q.1) e in
      elim (taken (f r) k) [
        | inl h ↦ inl (ap f p ∙ (h ∙ ap Some (sym v)))
        | inr h ↦ inr (let w : unwrap_or (f r) k ≡ k = h.1 in omega arith)
      ]
  | inr h ↦ elim (after-pair f (cond (is_some (f r)) k (suc k)) Q t x h) [
    | inl e ↦ inl e
    | inr l ↦ inr (let n : k ≤ cond (is_some (f r)) k (suc k) = next-above (f r) k in omega arith)
  ]
]

after-by : (f : ℕ → Option ℕ) (k : ℕ) (Q : List ℕ) (t x : ℕ) → Contains Q t → f t ≡ Some x → Contains (numbered_after f k Q) (t, x)
after-by f k [] t x c e = absurd (Contains-nil t c)
after-by f k (r ∷ Q) t x c e = elim (contains_cases r Q t c) [
  | inl p ↦
      let v : unwrap_or (f r) k ≡ x = ap (λ o. unwrap_or o k) (ap f (sym p) ∙ e) in
      subst (Contains (numbered_after f k (r ∷ Q))) (λ i. (sym p i, v i)) (contains_head (r, unwrap_or (f r) k) (numbered_after f (cond (is_some (f r)) k (suc k)) Q))
  | inr h ↦ contains_tail (r, unwrap_or (f r) k) (numbered_after f (cond (is_some (f r)) k (suc k)) Q) (t, x) (after-by f (cond (is_some (f r)) k (suc k)) Q t x h e)
]

-- f says numbers below k, and no number of two slots
record Says (f : ℕ → Option ℕ) (bound : ℕ) : Type 0 where
  below : (t x : ℕ) → f t ≡ Some x → x < bound
  once : (t t' x : ℕ) → f t ≡ Some x → f t' ≡ Some x → t ≡ t'

-- the head of a numbered list against its tail
after-head : (f : ℕ → Option ℕ) (bound k : ℕ) (Q : List ℕ) → Says f bound → bound ≤ k → (r t : ℕ) → Contains (numbered_after f (cond (is_some (f r)) k (suc k)) Q) (t, unwrap_or (f r) k) → t ≡ r
after-head f bound k Q s l r t c = elim (taken (f r) k) [
  | inl h ↦ elim (after-pair f (cond (is_some (f r)) k (suc k)) Q t (unwrap_or (f r) k) c) [
    | inl e ↦ s.once t r (unwrap_or (f r) k) e h
    | inr g ↦
        let b : unwrap_or (f r) k < bound = s.below r (unwrap_or (f r) k) h in
        let n : k ≤ cond (is_some (f r)) k (suc k) = next-above (f r) k in
        absurd (omega arith)
  ]
  | inr h ↦ elim (after-pair f (cond (is_some (f r)) k (suc k)) Q t (unwrap_or (f r) k) c) [
    | inl e ↦
        let b : unwrap_or (f r) k < bound = s.below t (unwrap_or (f r) k) e in
        let v : unwrap_or (f r) k ≡ k = h.1 in
        absurd (omega arith)
    | inr g ↦
        let v : unwrap_or (f r) k ≡ k = h.1 in
        let n : cond (is_some (f r)) k (suc k) ≡ suc k = h.2 in
        absurd (omega arith)
  ]
]

after-once : (f : ℕ → Option ℕ) (bound k : ℕ) (Q : List ℕ) → Says f bound → bound ≤ k → (t t' x : ℕ) → Contains (numbered_after f k Q) (t, x) → Contains (numbered_after f k Q) (t', x) → t ≡ t'
after-once f bound k [] s l t t' x c d = absurd (Contains-nil (t, x) c)
after-once f bound k (r ∷ Q) s l t t' x c d =
    let rest = numbered_after f (cond (is_some (f r)) k (suc k)) Q in
    elim (contains_cases (r, unwrap_or (f r) k) rest (t, x) c) [
      | inl e ↦ elim (contains_cases (r, unwrap_or (f r) k) rest (t', x) d) [
        | inl g ↦ ap (λ q. q.0) e ∙ sym (ap (λ q. q.0) g)
        | inr h ↦ ap (λ q. q.0) e ∙ sym (after-head f bound k Q s l r t' (subst (λ y. Contains rest (t', y)) (ap (λ q. q.1) e) h))
      ]
      | inr h ↦ elim (contains_cases (r, unwrap_or (f r) k) rest (t', x) d) [
        | inl g ↦ after-head f bound k Q s l r t (subst (λ y. Contains rest (t, y)) (ap (λ q. q.1) g) h) ∙ sym (ap (λ q. q.0) g)
        | inr j ↦
            let n : k ≤ cond (is_some (f r)) k (suc k) = next-above (f r) k in
            after-once f bound (cond (is_some (f r)) k (suc k)) Q s (omega arith) t t' x h j
      ]
    ]

-- the names of the right side go on after those of the left side
after-step : (o : Option ℕ) (k : ℕ) (rest : ℕ → List ℕ) → ((v : ℕ) → o ≡ Some v → v < k) → ((n : ℕ) → k ≤ n → IsNumberedAfter n (rest n)) → IsNumberedAfter k (unwrap_or o k ∷ rest (cond (is_some o) k (suc k)))
after-step None k rest h r = inr (refl, r (suc k) (omega arith))
after-step (Some v) k rest h r = inl (h v refl, r k (omega arith))

after-numbered : (f : ℕ → Option ℕ) (bound k : ℕ) (Q : List ℕ) → Says f bound → bound ≤ k → IsNumberedAfter k (values_of (numbered_after f k Q))
after-numbered f bound k [] s l = tt
after-numbered f bound k (t ∷ Q) s l = after-step (f t) k (λ n. values_of (numbered_after f n Q))
    (λ v e. let b : v < bound = s.below t v e in omega arith)
    (λ n h. after-numbered f bound n Q s (omega arith))

module _ (P Q : List ℕ) (A : List (ℕ × ℕ)) (onceP : AllDifferent P) (onceQ : AllDifferent Q) (a : IsPartialInjection P Q A) where
  abbrev left : List (ℕ × ℕ)
  left = numbered_from 0 P

  -- the number of the partner
  abbrev said : ℕ → Option ℕ
  said = value_of (composite (flipped A) (numbered_from 0 P))

  abbrev right : List (ℕ × ℕ)
  right = numbered_after said (length P) Q

  pub left-full : IsFullMap P left
  left-full = from-full 0 P onceP

  partner : (t x : ℕ) → said t ≡ Some x → (s : ℕ) × Contains A (s, t) × Contains left (s, x)
  partner t x e =
      let r = composite-over (flipped A) left t x (Contains-value_of (composite (flipped A) left) t x e) in
      (r.0, Contains-of_flipped A r.0 t r.1, r.2)

  said_found : (s t : ℕ) → Contains A (s, t) → (x : ℕ) × (said t ≡ Some x)
  said_found s t c =
      let x = full-name P left left-full s (key_in_order P A a.in_order s t c) in
      value_of-found (composite (flipped A) left) t x.0 (composite-by P (flipped A) left (full-in_order P left left-full) t s x.0 (Contains-flipped A s t c) x.1)

  says : Says said (length P)
  says = record {
    below = λ t x e.
        let r = partner t x e in
        let l : (0 ≤ x) × (x < 0 + length P) = from-within 0 P r.0 x r.2 in
        omega arith;
    once = λ t t' x e d.
        let r = partner t x e in
        let q = partner t' x d in
        one_partner P A a.in_order q.0 t t' (subst (λ s. Contains A (s, t)) (full-one_slot P left left-full r.0 q.0 x r.2 q.2) r.1) q.1;
  }

  pub right-full : IsFullMap Q right
  right-full = full-from Q right (after-keys said (length P) Q) onceQ (after-once said (length P) (length P) Q says (omega arith))

  pub numbers-correspond : same_names left right ≡ A
  numbers-correspond = same_names-is P Q left right A left-full right-full a.in_order
      (λ s t x c d. elim (after-pair said (length P) Q t x d) [
        | inl e ↦
            let r = partner t x e in
            subst (λ y. Contains A (y, t)) (full-one_slot P left left-full r.0 s x r.2 c) r.1
        | inr h ↦ let l : (0 ≤ x) × (x < 0 + length P) = from-within 0 P s x c in absurd (omega arith)
      ])
      (λ s t c.
      let x = said_found s t c in
      let r = partner t x.0 x.1 in
      (x.0, subst (λ y. Contains left (y, x.0)) (a.injective r.0 s t r.1 c) r.2, after-by said (length P) Q t x.0 (a.within s t c) x.1))

  pub numbers-numbered : IsNumberedAfter 0 (values_of left ++ values_of right)
  numbers-numbered = from-numbered 0 P (values_of right)
      (subst (λ n. IsNumberedAfter n (values_of right)) (omega arith) (after-numbered said (length P) (length P) Q says (omega arith)))

-- an injective map between two lists that are numbered as their names occur changes nothing
numbered-fixed : (f : ℕ → ℕ) → IsInjective f → (k : ℕ) → ((x : ℕ) → x < k → f x ≡ x) → (xs : List ℕ) → IsNumberedAfter k xs → IsNumberedAfter k (map f xs) → (y : ℕ) → Contains xs y → f y ≡ y
numbered-fixed f inj k h [] a b y c = absurd (Contains-nil y c)
numbered-fixed f inj k h (x ∷ xs) (inl a) (inl b) y c = elim (contains_cases x xs y c) [
  | inl e ↦ ap f e ∙ (h x a.0 ∙ sym e)
  | inr d ↦ numbered-fixed f inj k h xs a.1 b.1 y d
]
numbered-fixed f inj k h (x ∷ xs) (inl a) (inr b) y c = let e : f x ≡ x = h x a.0 in let l : x < k = a.0 in let g : f x ≡ k = b.0 in absurd (omega arith)
numbered-fixed f inj k h (x ∷ xs) (inr a) (inl b) y c =
    let e : f x ≡ x = inj (f x) x (h (f x) b.0) in
    let l : f x < k = b.0 in
    let g : x ≡ k = a.0 in
    absurd (omega arith)
numbered-fixed f inj k h (x ∷ xs) (inr a) (inr b) y c =
    let e : f x ≡ x = b.0 ∙ sym a.0 in
    elim (contains_cases x xs y c) [
      | inl d ↦ ap f d ∙ (e ∙ sym d)
      | inr d ↦ numbered-fixed f inj (suc k)
          (λ z l. elim (cases_eq z x) [
            | inl p ↦ ap f p ∙ (e ∙ sym p)
            | inr n ↦ h z (let g : x ≡ k = a.0 in omega arith)
          ])
          xs a.1 b.1 y d
    ]

with_values-fixed : (f : ℕ → ℕ) (m : List (ℕ × ℕ)) → ((x : ℕ) → Contains (values_of m) x → f x ≡ x) → with_values f m ≡ m
with_values-fixed f [] h = refl
with_values-fixed f (p ∷ m) h = λ i. (p.0, h p.1 (contains_head p.1 (values_of m)) i) ∷ with_values-fixed f m (λ x c. h x (contains_tail p.1 (values_of m) x c)) i

with_values-values : (f : ℕ → ℕ) (m n : List (ℕ × ℕ)) → values_of (with_values f m) ++ values_of (with_values f n) ≡ map f (values_of m ++ values_of n)
with_values-values f [] [] = refl
with_values-values f [] (p ∷ n) = ap (λ L. f p.1 ∷ L) (with_values-values f [] n)
with_values-values f (p ∷ m) n = ap (λ L. f p.1 ∷ L) (with_values-values f m n)

-- two maps whose names are numbered as they first occur are those of their correspondence
pub numbered-only : (P Q : List ℕ) (m n : List (ℕ × ℕ)) → IsFullMap P m → IsFullMap Q n → IsNumberedAfter 0 (values_of m ++ values_of n) → numbered P Q (same_names m n) ≡ (m, n)
numbered-only P Q m n f g h =
    let a = same_names-partial P Q m n f g in
    let l = numbered P Q (same_names m n) in
    let r = same_names-bijection P Q m n l.0 l.1 f g (left-full P Q (same_names m n) f.once g.once a) (right-full P Q (same_names m n) f.once g.once a) (sym (numbers-correspond P Q (same_names m n) f.once g.once a)) in
    let v : IsNumberedAfter 0 (map r.0.to (values_of m ++ values_of n)) = subst (IsNumberedAfter 0) ((λ i. values_of (r.1 i) ++ values_of (r.2 i)) ∙ with_values-values r.0.to m n) (numbers-numbered P Q (same_names m n) f.once g.once a) in
    let e : (x : ℕ) → Contains (values_of m ++ values_of n) x → r.0.to x ≡ x = numbered-fixed r.0.to (to-injective r.0) 0 (λ x b. absurd (omega arith)) (values_of m ++ values_of n) h v in
    let p : l.0 ≡ m = r.1 ∙ with_values-fixed r.0.to m (λ x c. e x (Contains-append_left (values_of m) (values_of n) x c)) in
    let q : l.1 ≡ n = r.2 ∙ with_values-fixed r.0.to n (λ x c. e x (Contains-append_right (values_of m) (values_of n) x c)) in
    λ i. (p i, q i)

-- the correspondence of the numbered maps is the one that they are made for
pub numbered-form : (P Q : List ℕ) (A : List (ℕ × ℕ)) → AllDifferent P → AllDifferent Q → IsPartialInjection P Q A → IsNumberedForm P Q A (numbered P Q A).0 (numbered P Q A).1
numbered-form P Q A c d a = record {
  left = left-full P Q A c d a;
  right = right-full P Q A c d a;
  correspondence = numbers-correspond P Q A c d a;
  numbers = numbers-numbered P Q A c d a;
}

pub numbered-form_only : (P Q : List ℕ) (A m n : List (ℕ × ℕ)) → IsNumberedForm P Q A m n → numbered P Q A ≡ (m, n)
numbered-form_only P Q A m n r = ap (numbered P Q) (sym r.correspondence) ∙ numbered-only P Q m n r.left r.right r.numbers

-- equations of one numbered form have one correspondence
numbered-determines : (P Q : List ℕ) (A B : List (ℕ × ℕ)) → AllDifferent P → AllDifferent Q → IsPartialInjection P Q A → IsPartialInjection P Q B → numbered P Q A ≡ numbered P Q B → A ≡ B
numbered-determines P Q A B c d a b e =
    sym (numbers-correspond P Q A c d a) ∙ (ap (λ l. same_names l.0 l.1) e ∙ numbers-correspond P Q B c d b)

pub match-numbered_iff : (P Q : List ℕ) (m n m' n' : List (ℕ × ℕ)) → IsFullMap P m → IsFullMap Q n → IsFullMap P m' → IsFullMap Q n' → IsMatch m n m' n' ↔ (numbered P Q (same_names m n) ≡ numbered P Q (same_names m' n'))
match-numbered_iff P Q m n m' n' f g f' g' = (
  λ r. ap (numbered P Q) ((match_iff P Q m n m' n' f g f' g').0 r),
  λ e. (match_iff P Q m n m' n' f g f' g').1
      (numbered-determines P Q (same_names m n) (same_names m' n') f.once g.once (same_names-partial P Q m n f g) (same_names-partial P Q m' n' f' g') e),
)
