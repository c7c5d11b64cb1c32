-- The pairs, in the order in which they were made, against those of the meaning, the last one first.
use Rattle.std.specs.Prelude.{◌||◌, Bool, true, false, cond, nat_eq, option_map, option_and_then, Option, Some, None, reverse}
use Rattle.std.specs.List.{find, list_any}
use Rattle.std.proofs.Common.{◌≡◌, ◌≢◌, ◌+◌, ◌<◌, ◌≤◌, ◌++◌, ℕ, suc, List, [], ◌∷◌, drop, length, get_or, sym, ◌∙◌, ap, refl}
use Rattle.std.proofs.lemmas.List.{reverse-append, at_drop_more, drop_all}
use Rattle.std.proofs.lemmas.List.Folds.{list_any-append}
use Rattle.slotted_theory.specs.FiniteMaps.{value_of}
use Rattle.slotted_model.specs.Applied.{values}
use Rattle.slotted_model.specs.Correspondence.{has_slot}
use Rattle.slotted_model_rules.specs.Matcher.{paired, paired_with}
use Rattle.slotted_model_rules.specs.Goals.{paired_all}

pub value_of-find : (m : List (ℕ × ℕ)) (k : ℕ) → value_of m k ≡ option_map (λ p. p.1) (find (λ p. nat_eq k p.0) m)
value_of-find [] k = refl
value_of-find (x ∷ m) k = elim (nat_eq k x.0) as (λ b. cond b (Some x.1) (value_of m k) ≡ option_map (λ p. p.1) (cond b (Some x) (find (λ p. nat_eq k p.0) m))) [
  | true ↦ refl
  | false ↦ value_of-find m k
]

has_slot-values : (m : List (ℕ × ℕ)) (t : ℕ) → has_slot (values m) t ≡ list_any (λ p. nat_eq t p.1) m
has_slot-values [] t = refl
has_slot-values (x ∷ m) t = ap (λ b. nat_eq t x.1 || b) (has_slot-values m t)

or_comm : (a b : Bool) → (a || b) ≡ (b || a)
or_comm true true = refl
or_comm true false = refl
or_comm false true = refl
or_comm false false = refl

or_false : (a : Bool) → (a || false) ≡ a
or_false true = refl
or_false false = refl

list_any-reverse : (test : ℕ × ℕ → Bool) (m : List (ℕ × ℕ)) → list_any test (reverse m) ≡ list_any test m
list_any-reverse test [] = refl
list_any-reverse test (x ∷ m) =
    ap (list_any test) (reverse-append (x ∷ []) m) ∙ (list_any-append test (reverse m) (x ∷ []) ∙ (or_comm (list_any test (reverse m)) (test x || false)
    ∙ (ap (λ b. b || list_any test (reverse m)) (or_false (test x)) ∙ ap (λ b. test x || b) (list_any-reverse test m))))

pub has_slot-reverse : (m : List (ℕ × ℕ)) (t : ℕ) → has_slot (values (reverse m)) t ≡ list_any (λ p. nat_eq t p.1) m
has_slot-reverse m t = has_slot-values (reverse m) t ∙ list_any-reverse (λ p. nat_eq t p.1) m

-- the name is paired by the slot that it stands for
paired-by : (m : List (ℕ × ℕ)) (k t : ℕ) (o : Option ℕ) → o ≡ option_map (λ p. p.1) (find (λ p. nat_eq k p.0) (reverse m)) → paired (reverse m) k t ≡ paired_with o (reverse m) k t
paired-by m k t o e = ap (λ v. paired_with v (reverse m) k t) (value_of-find (reverse m) k ∙ sym e)

pub paired-found : (m : List (ℕ × ℕ)) (k t u : ℕ) → Some u ≡ option_map (λ p. p.1) (find (λ p. nat_eq k p.0) (reverse m)) →
    paired (reverse m) k t ≡ cond (nat_eq u t) (Some (reverse m)) None
paired-found m k t u = paired-by m k t (Some u)

paired-new : (m : List (ℕ × ℕ)) (k t : ℕ) (taken : Bool) → None ≡ option_map (λ p. p.1) (find (λ p. nat_eq k p.0) (reverse m)) →
    taken ≡ list_any (λ p. nat_eq t p.1) m → paired (reverse m) k t ≡ cond taken None (Some ((k, t) ∷ reverse m))
paired-new m k t taken e f =
    paired-by m k t None e ∙ ap (λ b. cond b None (Some ((k, t) ∷ reverse m))) (has_slot-reverse m t ∙ sym f)

pub paired-taken : (m : List (ℕ × ℕ)) (k t : ℕ) → None ≡ option_map (λ p. p.1) (find (λ p. nat_eq k p.0) (reverse m)) →
    true ≡ list_any (λ p. nat_eq t p.1) m → paired (reverse m) k t ≡ None
paired-taken m k t = paired-new m k t true

pub paired-pushed : (m n : List (ℕ × ℕ)) (k t : ℕ) → None ≡ option_map (λ p. p.1) (find (λ p. nat_eq k p.0) (reverse m)) →
    false ≡ list_any (λ p. nat_eq t p.1) m → n ≡ m ++ (k, t) ∷ [] → paired (reverse m) k t ≡ Some (reverse n)
paired-pushed m n k t e f p = paired-new m k t false e f ∙ ap Some (sym (reverse-append m ((k, t) ∷ [])) ∙ ap reverse (sym p))

-- lists of two lengths are not paired
pub paired_all-lengths : (pairs : List (ℕ × ℕ)) (names slots : List ℕ) → length names ≢ length slots → paired_all pairs names slots ≡ None
paired_all-lengths pairs [] [] h = absurd (h refl)
paired_all-lengths pairs [] (x ∷ slots) h = refl
paired_all-lengths pairs (y ∷ names) [] h = refl
paired_all-lengths pairs (y ∷ names) (x ∷ slots) h =
    elim (paired pairs y x) as (λ o. option_and_then (λ more. paired_all more names slots) o ≡ None) [
      | None ↦ refl
      | Some more ↦ paired_all-lengths more names slots (λ e. h (ap suc e))
    ]

-- one pair after another, from the position i on
paired_all-step : (pairs : List (ℕ × ℕ)) (names slots : List ℕ) (i : ℕ) → i < length names → i < length slots →
    paired_all pairs (drop i names) (drop i slots)
    ≡ option_and_then (λ more. paired_all more (drop (i + 1) names) (drop (i + 1) slots)) (paired pairs (get_or names i 0) (get_or slots i 0))
paired_all-step pairs names slots i g h =
    at_drop_more (λ n. paired_all pairs n (drop i slots)) names i 0 g
    ∙ at_drop_more (λ s. paired_all pairs (get_or names i 0 ∷ drop (i + 1) names) s) slots i 0 h

pub paired_all-more : (pairs more : List (ℕ × ℕ)) (names slots : List ℕ) (i : ℕ) → i < length names → i < length slots →
    paired pairs (get_or names i 0) (get_or slots i 0) ≡ Some more →
    paired_all pairs (drop i names) (drop i slots) ≡ paired_all more (drop (i + 1) names) (drop (i + 1) slots)
paired_all-more pairs more names slots i g h e =
    paired_all-step pairs names slots i g h ∙ ap (option_and_then (λ m. paired_all m (drop (i + 1) names) (drop (i + 1) slots))) e

pub paired_all-not : (pairs : List (ℕ × ℕ)) (names slots : List ℕ) (i : ℕ) → i < length names → i < length slots →
    paired pairs (get_or names i 0) (get_or slots i 0) ≡ None → paired_all pairs (drop i names) (drop i slots) ≡ None
paired_all-not pairs names slots i g h e =
    paired_all-step pairs names slots i g h ∙ ap (option_and_then (λ m. paired_all m (drop (i + 1) names) (drop (i + 1) slots))) e

pub paired_all-end : (pairs : List (ℕ × ℕ)) (names slots : List ℕ) (i : ℕ) → length names ≤ i → length slots ≤ i →
    paired_all pairs (drop i names) (drop i slots) ≡ Some pairs
paired_all-end pairs names slots i g h =
    ap (λ n. paired_all pairs n (drop i slots)) (drop_all i names g) ∙ ap (λ s. paired_all pairs [] s) (drop_all i slots h)
