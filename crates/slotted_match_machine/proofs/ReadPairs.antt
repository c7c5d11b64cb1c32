-- Pairs whose numbers are named: pairing them is pairing the numbers.
use Rattle.std.proofs.Common.{◌≡◌, ℕ, List, [], ◌∷◌, map, Option, Some, None, Bool, true, false, sym, ◌∙◌, ap, refl, inl, inr}
use Rattle.std.specs.Prelude.{cond, nat_eq, option_map, option_and_then}
use Rattle.std.proofs.lemmas.Bool.{cases_eq, eq-eqb, ne_eqb}
use Rattle.slotted_theory.specs.FiniteMaps.{value_of}
use Rattle.slotted_theory.specs.Renaming.{IsInjective}
use Rattle.slotted_model.specs.Applied.{values}
use Rattle.slotted_model.specs.Correspondence.{has_slot}
use Rattle.slotted_model_rules.specs.Matcher.{paired_with, paired}
use Rattle.slotted_model_rules.specs.Goals.{paired_all}
use Rattle.slotted_match_machine.specs.Readings.{read_pairs}

values-read : (f : ℕ → ℕ) (pairs : List (ℕ × ℕ)) → values (read_pairs f pairs) ≡ values pairs
values-read f [] = refl
values-read f (p ∷ pairs) = ap (λ l. p.1 ∷ l) (values-read f pairs)

-- an option to which two things are done is that of both
mapped-then : {A B C D : Type 0} (h : A → B) (k : C → D) (after : B → Option D) (before : A → Option C) (o : Option A) → ((x : A) → after (h x) ≡ option_map k (before x)) →
    option_and_then after (option_map h o) ≡ option_map k (option_and_then before o)
mapped-then h k after before None e = refl
mapped-then h k after before (Some x) e = e x

module _ (f : ℕ → ℕ) (inj : IsInjective f) where
  value-read : (pairs : List (ℕ × ℕ)) (s : ℕ) → value_of (read_pairs f pairs) (f s) ≡ value_of pairs s
  value-read [] s = refl
  value-read (p ∷ pairs) s = elim (cases_eq s p.0) [
    | inl e ↦ (λ i. cond (eq-eqb (f s) (f p.0) (ap f e) i) (Some p.1) (value_of (read_pairs f pairs) (f s))) ∙ sym (λ i. cond (eq-eqb s p.0 e i) (Some p.1) (value_of pairs s))
    | inr n ↦
        (λ i. cond (ne_eqb (f s) (f p.0) (λ e. n (inj s p.0 e)) i) (Some p.1) (value_of (read_pairs f pairs) (f s)))
        ∙ (value-read pairs s ∙ sym (λ i. cond (ne_eqb s p.0 n i) (Some p.1) (value_of pairs s)))
  ]

  with-read : (o : Option ℕ) (pairs : List (ℕ × ℕ)) (s t : ℕ) → paired_with o (read_pairs f pairs) (f s) t ≡ option_map (read_pairs f) (paired_with o pairs s t)
  with-read (Some u) pairs s t = go (nat_eq u t)
    where
      go : (b : Bool) → cond b (Some (read_pairs f pairs)) None ≡ option_map (read_pairs f) (cond b (Some pairs) None)
      go true = refl
      go false = refl
  with-read None pairs s t = ap (λ l. cond (has_slot l t) None (Some ((f s, t) ∷ read_pairs f pairs))) (values-read f pairs) ∙ go (has_slot (values pairs) t)
    where
      go : (b : Bool) → cond b None (Some ((f s, t) ∷ read_pairs f pairs)) ≡ option_map (read_pairs f) (cond b None (Some ((s, t) ∷ pairs)))
      go true = refl
      go false = refl

  pair-read : (pairs : List (ℕ × ℕ)) (s t : ℕ) → paired (read_pairs f pairs) (f s) t ≡ option_map (read_pairs f) (paired pairs s t)
  pair-read pairs s t = ap (λ o. paired_with o (read_pairs f pairs) (f s) t) (value-read pairs s) ∙ with-read (value_of pairs s) pairs s t

  pub all-read : (names slots : List ℕ) (pairs : List (ℕ × ℕ)) → paired_all (read_pairs f pairs) (map f names) slots ≡ option_map (read_pairs f) (paired_all pairs names slots)
  all-read [] [] pairs = refl
  all-read [] (t ∷ slots) pairs = refl
  all-read (s ∷ names) [] pairs = refl
  all-read (s ∷ names) (t ∷ slots) pairs =
      ap (option_and_then (λ more. paired_all more (map f names) slots)) (pair-read pairs s t)
      ∙ mapped-then (read_pairs f) (read_pairs f) (λ more. paired_all more (map f names) slots) (λ more. paired_all more names slots) (paired pairs s t) (λ more. all-read names slots more)
