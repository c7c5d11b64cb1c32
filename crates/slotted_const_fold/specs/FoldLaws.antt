-- Constant folding keeps the laws of analyses.
use Rattle.std.specs.Prelude.{◌≡◌, ◌≢◌, ℕ, ◌<◌, cond, refl}
use Rattle.std.proofs.Common.{arith, ap, sym, ◌∙◌, inl, inr}
use Rattle.std.proofs.lemmas.Bool.{cases_eq, eq-eqb, ne_eqb}
use Rattle.slotted_data.specs.Meaning.{IsMergeOf}
use Rattle.slotted_const_fold.specs.declared.const_fold.Fold.{Fold}
use Rattle.slotted_const_fold.specs.declared.const_fold.Fold.TheVariants.{None, Number, Conflict}
use Rattle.slotted_const_fold.specs.ConstFold.{fold, fold_merged, fold_height}

numbers-same : (m n : ℕ) → m ≡ n → fold_merged (Number m) (Number n) ≡ Number m
numbers-same m n e = ap (λ b. cond b (Number m) Conflict) (eq-eqb m n e)

numbers-differ : (m n : ℕ) → m ≢ n → fold_merged (Number m) (Number n) ≡ Conflict
numbers-differ m n d = ap (λ b. cond b (Number m) Conflict) (ne_eqb m n d)

with_conflict : (x : Fold) → fold_merged x Conflict ≡ Conflict
with_conflict None = refl
with_conflict (Number n) = refl
with_conflict Conflict = refl

with_none : (x : Fold) → fold_merged x None ≡ x
with_none None = refl
with_none (Number n) = refl
with_none Conflict = refl

commutes : (x y : Fold) → fold_merged x y ≡ fold_merged y x
commutes None y = sym (with_none y)
commutes Conflict y = sym (with_conflict y)
commutes (Number m) None = refl
commutes (Number m) Conflict = refl
commutes (Number m) (Number n) = elim (cases_eq m n) [
  | inl e ↦ numbers-same m n e ∙ (ap Number e ∙ sym (numbers-same n m (sym e)))
  | inr d ↦ numbers-differ m n d ∙ sym (numbers-differ n m (λ e. d (sym e)))
]

three : (l m n : ℕ) → fold_merged (fold_merged (Number l) (Number m)) (Number n) ≡ fold_merged (Number l) (fold_merged (Number m) (Number n))
three l m n = elim (cases_eq l m) [
  | inl e ↦ elim (cases_eq m n) [
    | inl f ↦ ap (λ x. fold_merged x (Number n)) (numbers-same l m e) ∙ (numbers-same l n (e ∙ f) ∙ sym (ap (fold_merged (Number l)) (numbers-same m n f) ∙ numbers-same l m e))
    | inr d ↦ ap (λ x. fold_merged x (Number n)) (numbers-same l m e) ∙ (numbers-differ l n (λ f. d (sym e ∙ f)) ∙ sym (ap (fold_merged (Number l)) (numbers-differ m n d)))
  ]
  | inr d ↦ elim (cases_eq m n) [
    | inl f ↦ ap (λ x. fold_merged x (Number n)) (numbers-differ l m d) ∙ sym (ap (fold_merged (Number l)) (numbers-same m n f) ∙ numbers-differ l m d)
    | inr g ↦ ap (λ x. fold_merged x (Number n)) (numbers-differ l m d) ∙ sym (ap (fold_merged (Number l)) (numbers-differ m n g))
  ]
]

associates : (x y z : Fold) → fold_merged (fold_merged x y) z ≡ fold_merged x (fold_merged y z)
associates None y z = refl
associates Conflict y z = refl
associates (Number l) None z = refl
associates (Number l) Conflict z = refl
associates (Number l) (Number m) None = with_none (fold_merged (Number l) (Number m))
associates (Number l) (Number m) Conflict = with_conflict (fold_merged (Number l) (Number m))
associates (Number l) (Number m) (Number n) = three l m n

itself : (x : Fold) → fold_merged x x ≡ x
itself None = refl
itself (Number n) = numbers-same n n refl
itself Conflict = refl

falls : (x y : Fold) → fold_merged x y ≢ x → fold_height (fold_merged x y) < fold_height x
falls None None n = absurd (n refl)
falls None (Number m) n = omega arith
falls None Conflict n = omega arith
falls Conflict y n = absurd (n refl)
falls (Number m) None n = absurd (n refl)
falls (Number m) Conflict n = omega arith
falls (Number m) (Number k) n = elim (cases_eq m k) [
  | inl e ↦ absurd (n (numbers-same m k e))
  | inr d ↦ let h = ap fold_height (numbers-differ m k d) in omega (arith, h)
]

pub fold_merges : IsMergeOf fold
fold_merges = record { commutative = commutes; associative = associates; idempotent = itself; lowers = falls }
