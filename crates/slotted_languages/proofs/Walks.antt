-- Numbering places one after another, with the free names by name and by number.
use Rattle.std.proofs.Common.{◌≡◌, ◌≢◌, ℕ, ◌+◌, List, [], ◌∷◌, ◌++◌, Some, None, sym, ◌∙◌, ap, refl, inl, inr, arith}
use Rattle.std.specs.Prelude.{cond, nat_eq}
use Rattle.std.proofs.lemmas.Bool.{eq-eqb, ne_eqb, cases_eq}
use Rattle.std.proofs.lemmas.Bool.Decides.{nat_tests}
use Rattle.slotted_slots.specs.Table.{numeric_slot}
use Rattle.slotted_slots.specs.Maps.{value_of, with_pair}
use Rattle.slotted_languages.specs.Shape.{number_of, free_number, IsBelow}
use Rattle.slotted_languages.specs.Walk.{Walk, numbers, walk_free}
use Rattle.slotted_languages.proofs.Numbered.{IsBelow-up, IsBelow-more}

pub value_of-with_pair_same : (m : List (ℕ × ℕ)) (l r : ℕ) → value_of (with_pair m l r) l ≡ Some r
value_of-with_pair_same [] l r = grind (arith, nat_tests)
value_of-with_pair_same (p ∷ m) l r = grind (arith, nat_tests, value_of-with_pair_same m l r)

pub value_of-with_pair_other : (m : List (ℕ × ℕ)) (l r k : ℕ) → l ≢ k → value_of (with_pair m l r) k ≡ value_of m k
value_of-with_pair_other [] l r k n = grind (arith, nat_tests)
value_of-with_pair_other (p ∷ m) l r k n = grind (arith, nat_tests, value_of-with_pair_other m l r k n)

-- a pair whose key is above all keys goes last
pub with_pair-last : (m : List (ℕ × ℕ)) (l r : ℕ) → IsBelow l m → with_pair m l r ≡ m ++ (l, r) ∷ []
with_pair-last [] l r b = refl
with_pair-last (p ∷ m) l r b = grind (arith, nat_tests, b.0, with_pair-last m l r b.1)

number_of-append_none : (m l : List (ℕ × ℕ)) (x : ℕ) → number_of m x ≡ None → number_of (m ++ l) x ≡ number_of l x
number_of-append_none [] l x e = refl
number_of-append_none (p ∷ m) l x e = elim (cases_eq p.1 x) [
  | inl d ↦ let q : cond (nat_eq p.1 x) (Some p.0) (number_of m x) ≡ Some p.0 = ap (λ b. cond b (Some p.0) (number_of m x)) (eq-eqb p.1 x d) in cc
  | inr d ↦
      ap (λ b. cond b (Some p.0) (number_of (m ++ l) x)) (ne_eqb p.1 x d)
      ∙ number_of-append_none m l x (sym (ap (λ b. cond b (Some p.0) (number_of m x)) (ne_eqb p.1 x d)) ∙ e)
]

number_of-other : (m : List (ℕ × ℕ)) (n x y : ℕ) → x ≢ y → number_of (m ++ (n, x) ∷ []) y ≡ number_of m y
number_of-other [] n x y d = ap (λ b. cond b (Some n) None) (ne_eqb x y d)
number_of-other (p ∷ m) n x y d = ap (λ o. cond (nat_eq p.1 y) (Some p.0) o) (number_of-other m n x y d)

-- a new free name, in both maps
pub new_same : (m l : List (ℕ × ℕ)) (n x : ℕ) → ((y : ℕ) → value_of m y ≡ number_of l y) → value_of m x ≡ None → (y : ℕ) → value_of (with_pair m x n) y ≡ number_of (l ++ (n, x) ∷ []) y
new_same m l n x h e y = elim (cases_eq x y) [
  | inl d ↦
      ap (value_of (with_pair m x n)) (sym d) ∙ (value_of-with_pair_same m x n
      ∙ (sym (ap (λ b. cond b (Some n) None) (eq-eqb x x refl)) ∙ (sym (number_of-append_none l ((n, x) ∷ []) x (sym (h x) ∙ e)) ∙ ap (number_of (l ++ (n, x) ∷ [])) d)))
  | inr d ↦ value_of-with_pair_other m x n y d ∙ (h y ∙ sym (number_of-other l n x y d))
]

pub new_below : (k x : ℕ) (l : List (ℕ × ℕ)) → IsBelow (numeric_slot k) l → IsBelow (numeric_slot (k + 1)) (l ++ (numeric_slot k, x) ∷ [])
new_below k x l b = IsBelow-more (numeric_slot (k + 1)) (numeric_slot k) x l (omega arith) (IsBelow-up (numeric_slot k) (numeric_slot (k + 1)) l (omega arith) b)

pub next_below : (k : ℕ) (l : List (ℕ × ℕ)) → IsBelow (numeric_slot k) l → IsBelow (numeric_slot (k + 1)) l
next_below k l b = IsBelow-up (numeric_slot k) (numeric_slot (k + 1)) l (omega arith) b

-- a free name that was not met
pub missing_free : (w : Walk) (x : ℕ) → number_of w.free x ≡ None → walk_free w x ≡ (numeric_slot w.next, record { next = w.next + 1; binders = w.binders; free = w.free ++ (numeric_slot w.next, x) ∷ [] })
missing_free w x e = ap (λ o. let r = free_number o (numbers w) x in let s : Walk = record { next = r.1.next; binders = w.binders; free = r.1.free } in (r.0, s)) e

-- what both maps hold after a free name that was not met
pub new_free : (w : Walk) (l : List (ℕ × ℕ)) (n x : ℕ) → IsBelow (numeric_slot w.next) w.free → number_of w.free x ≡ None → n ≡ numeric_slot w.next → l ≡ with_pair w.free n x → (n, let s : Walk = record { next = w.next + 1; binders = w.binders; free = l } in s) ≡ walk_free w x
new_free w l n x b e en el =
    let el' : l ≡ w.free ++ (numeric_slot w.next, x) ∷ [] = el ∙ (ap (λ k. with_pair w.free k x) en ∙ with_pair-last w.free (numeric_slot w.next) x b) in
    (λ i. (en i, record { next = w.next + 1; binders = w.binders; free = el' i })) ∙ sym (missing_free w x e)

pub both_same : (k : ℕ) (m l m' l' : List (ℕ × ℕ)) (n x : ℕ) → IsBelow (numeric_slot k) l → ((y : ℕ) → value_of m y ≡ number_of l y) → value_of m x ≡ None → n ≡ numeric_slot k → m' ≡ with_pair m x n → l' ≡ with_pair l n x → (y : ℕ) → value_of m' y ≡ number_of l' y
both_same k m l m' l' n x b h e en em el y =
    ap (λ q. value_of q y) em
    ∙ (new_same m l n x h e y
    ∙ ap (λ q. number_of q y) (sym (el ∙ with_pair-last l n x (IsBelow-up (numeric_slot k) n l (omega (arith, en)) b))))

pub both_below : (k : ℕ) (l l' : List (ℕ × ℕ)) (n x : ℕ) → IsBelow (numeric_slot k) l → n ≡ numeric_slot k → l' ≡ with_pair l n x → IsBelow (numeric_slot (k + 1)) l'
both_below k l l' n x b en el =
    let e : l' ≡ l ++ (numeric_slot k, x) ∷ [] = el ∙ (ap (λ j. with_pair l j x) en ∙ with_pair-last l (numeric_slot k) x b) in
    rw e (new_below k x l b)
