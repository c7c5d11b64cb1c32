-- Sets of free names, and children one after another.
use Rattle.std.proofs.Common.{◌≡◌, ℕ, suc, ◌+◌, ◌<◌, List, [], ◌∷◌, ◌++◌, length, take, slice_index, sym, ◌∙◌, ap, refl, inl, inr, add-one}
use Rattle.std.specs.Prelude.{Bool, true, false, ◌||◌, nat_eq, cond}
use Rattle.std.proofs.lemmas.Bool.{eq-eqb, ne_eqb, cases_eq}
use Rattle.std.proofs.Math.Seq.{take-suc}
use Rattle.std.specs.Ordering.{nat_cmp}
use Rattle.slotted_slots.specs.Maps.{is_among}
use Rattle.slotted_slots.specs.Sets.{insert_key}
use Rattle.slotted_slots.proofs.Ascending.{is_among-insert_key}
use Rattle.slotted_languages.specs.Shape.{added, firsts}

or_assoc : (a b c : Bool) → ((a || b) || c) ≡ (a || (b || c))
or_assoc true b c = refl
or_assoc false b c = refl

or_true : (b : Bool) → (b || true) ≡ true
or_true true = refl
or_true false = refl

pub or_false : (b : Bool) → (b || false) ≡ b
or_false true = refl
or_false false = refl

pub is_among-append : (x : ℕ) (vs xs : List ℕ) → is_among x (vs ++ xs) ≡ (is_among x vs || is_among x xs)
is_among-append x [] xs = refl
is_among-append x (v ∷ vs) xs = ap (λ b. nat_eq v x || b) (is_among-append x vs xs) ∙ sym (or_assoc (nat_eq v x) (is_among x vs) (is_among x xs))

among_same : (x y : ℕ) (vs : List ℕ) → is_among y vs ≡ true → (nat_eq y x || is_among x vs) ≡ is_among x vs
among_same x y vs h = elim (cases_eq y x) [
  | inl e ↦ ap (λ b. b || is_among x vs) (eq-eqb y x e) ∙ sym (ap (λ z. is_among z vs) (sym e) ∙ h)
  | inr n ↦ ap (λ b. b || is_among x vs) (ne_eqb y x n)
]

or_swap : (a b c : Bool) → (a || (b || c)) ≡ ((b || a) || c)
or_swap true true c = refl
or_swap true false c = refl
or_swap false true c = refl
or_swap false false c = refl

is_among-added : (x : ℕ) (vs xs : List ℕ) → is_among x (added vs xs) ≡ (is_among x vs || is_among x xs)
is_among-added x vs [] = sym (or_false (is_among x vs))
is_among-added x vs (y ∷ xs) = is_among-added x (cond (is_among y vs) vs (vs ++ y ∷ [])) xs ∙ one (is_among y vs) refl
  where
    one : (b : Bool) → is_among y vs ≡ b → (is_among x (cond b vs (vs ++ y ∷ [])) || is_among x xs) ≡ (is_among x vs || (nat_eq y x || is_among x xs))
    one true e = ap (λ b. b || is_among x xs) (sym (among_same x y vs e)) ∙ sym (or_swap (is_among x vs) (nat_eq y x) (is_among x xs))
    one false e = ap (λ b. b || is_among x xs) (is_among-append x vs (y ∷ []) ∙ ap (λ b. is_among x vs || b) (or_false (nat_eq y x))) ∙ or_assoc (is_among x vs) (nat_eq y x) (is_among x xs)

-- a name is among the first ones exactly if it is among all
pub is_among-firsts : (x : ℕ) (xs : List ℕ) → is_among x (firsts xs) ≡ is_among x xs
is_among-firsts x xs = is_among-added x [] xs

-- a set that gets one more name keeps those that it has
pub kept_among : (old new : List ℕ) (slot x : ℕ) → new ≡ insert_key nat_cmp old slot → is_among x old ≡ true → is_among x new ≡ true
kept_among old new slot x e h = ap (is_among x) e ∙ (is_among-insert_key x slot old ∙ (ap (λ b. nat_eq slot x || b) h ∙ or_true (nat_eq slot x)))

-- and has the names of one more place
pub added_among : (old new names : List ℕ) (i slot x : ℕ) → new ≡ insert_key nat_cmp old slot → slot ≡ slice_index names i → i < length names → (is_among x (take i names) ≡ true → is_among x old ≡ true) → is_among x (take (i + 1) names) ≡ true → is_among x new ≡ true
added_among old new names i slot x e s lt f h =
    let t : is_among x (take (suc i) names) ≡ (is_among x (take i names) || (nat_eq slot x || false)) =
    ap (is_among x) (take-suc names i 0 lt ∙ ap (λ y. take i names ++ y ∷ []) (sym s)) ∙ is_among-append x (take i names) (slot ∷ []) in
    let k : is_among x (take (suc i) names) ≡ true = rw (add-one i) at h in
    one (is_among x (take i names)) refl (sym t ∙ k)
  where
    one : (b : Bool) → is_among x (take i names) ≡ b → (b || (nat_eq slot x || false)) ≡ true → is_among x new ≡ true
    one true q r = kept_among old new slot x e (f q)
    one false q r = ap (is_among x) e ∙ (is_among-insert_key x slot old ∙ ap (λ b. b || is_among x old) (sym (or_false (nat_eq slot x)) ∙ r))

-- what a larger set lacks a smaller one lacks
pub lacks_smaller : (b c : Bool) → (b ≡ true → c ≡ true) → c ≡ false → b ≡ false
lacks_smaller true c f e = let t = f refl in cc
lacks_smaller false c f e = refl
