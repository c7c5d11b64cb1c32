-- How many explicit entries a proof list has: where no more than one is new, the new ones are one.
use Rattle.std.proofs.Common.{◌≡◌, ◌∙◌, ap, refl, sym, ℕ, zero, suc, ◌+◌, ◌-◌, ◌<◌, ◌≤◌, List, [], ◌∷◌, ◌++◌, length, arith, length-append, inl, inr}
use Rattle.std.specs.List.{cons_option}
use Rattle.std.proofs.lemmas.Bool.{cases_eq, cases_lt}
use Rattle.std.proofs.Math.Seq.{get_or-append_right}
use Rattle.slotted_theory.specs.Nameless.{DTerm}
use Rattle.slotted_model.specs.ProofList.{ProofEntry, Step, explicit, reflexive, symmetric, transitive, congruent, asserted, if_explicit, step_at, term_pair}

abbrev pub one : Step → ℕ
one explicit = 1
one reflexive = 0
one (symmetric q) = 0
one (transitive q r) = 0
one (congruent qs) = 0

abbrev pub explicit_count : List ProofEntry → ℕ
explicit_count [] = 0
explicit_count (e ∷ es) = one e.step + explicit_count es

no-more : (m n : ℕ) → m ≡ n → m ≡ 0 + n
no-more m n e = omega (arith, e)

one-more : (m n : ℕ) → m ≡ n → suc m ≡ 1 + n
one-more m n e = omega (arith, e)

count-first : (s : Step) (p : DTerm × DTerm) (ps : List (DTerm × DTerm)) (n : ℕ) → length ps ≡ n → length (cons_option (if_explicit s p) ps) ≡ one s + n
count-first explicit p ps n e = one-more (length ps) n e
count-first reflexive p ps n e = no-more (length ps) n e
count-first (symmetric q) p ps n e = no-more (length ps) n e
count-first (transitive q r) p ps n e = no-more (length ps) n e
count-first (congruent qs) p ps n e = no-more (length ps) n e

-- as many as are asserted
pub asserted-count : (nodes : List DTerm) (es : List ProofEntry) → length (asserted nodes es) ≡ explicit_count es
asserted-count nodes [] = refl
asserted-count nodes (e ∷ es) = count-first e.step (term_pair nodes e.equation) (asserted nodes es) (explicit_count es) (asserted-count nodes es)

pub count-append : (es fs : List ProofEntry) → explicit_count (es ++ fs) ≡ explicit_count es + explicit_count fs
count-append [] fs = none (explicit_count fs)
  where
    none : (n : ℕ) → n ≡ 0 + n
    none n = omega arith
count-append (e ∷ es) fs = omega (arith, count-append es fs)

counts-one : (s : Step) → s ≡ explicit → one s ≡ 1
counts-one s e = ap one e

pub has-one : (es : List ProofEntry) (p : ℕ) → p < length es → step_at es p ≡ explicit → 1 ≤ explicit_count es
has-one [] p l e = absurd (omega arith)
has-one (x ∷ es) zero l e = omega (arith, counts-one x.step e)
has-one (x ∷ es) (suc p) l e = omega (arith, has-one es p (omega (arith, l)) e)

has-two : (es : List ProofEntry) (p q : ℕ) → p < q → q < length es → step_at es p ≡ explicit → step_at es q ≡ explicit → 2 ≤ explicit_count es
has-two [] p q l m e f = absurd (omega arith)
has-two (x ∷ es) p zero l m e f = absurd (omega arith)
has-two (x ∷ es) zero (suc q) l m e f = omega (arith, counts-one x.step e, has-one es q (omega (arith, m)) f)
has-two (x ∷ es) (suc p) (suc q) l m e f = omega (arith, has-two es p q (omega (arith, l)) (omega (arith, m)) e f)

-- the step of a later entry
later-step : (es more : List ProofEntry) (p : ℕ) → length es ≤ p → step_at (es ++ more) p ≡ step_at more (p - length es)
later-step es more p l = ap (λ (x : ProofEntry). x.step) (get_or-append_right es more p _ l)

pub new-counts : (es more : List ProofEntry) (p : ℕ) → length es ≤ p → p < length (es ++ more) → step_at (es ++ more) p ≡ explicit → 1 ≤ explicit_count more
new-counts es more p l m e = has-one more (p - length es) (omega (arith, l, m, length-append es more)) (sym (later-step es more p l) ∙ e)

pub only-new : (es more : List ProofEntry) → explicit_count more ≤ 1 → (p q : ℕ) → length es ≤ p → p < length (es ++ more) → step_at (es ++ more) p ≡ explicit →
    length es ≤ q → q < length (es ++ more) → step_at (es ++ more) q ≡ explicit → p ≡ q
only-new es more few p q l m e k n f =
    let n-app = length-append es more in
    let ep = sym (later-step es more p l) ∙ e in
    let eq = sym (later-step es more q k) ∙ f in
    elim (cases_eq p q) [
      | inl same ↦ same
      | inr other ↦ elim (cases_lt p q) [
        | inl lt ↦ absurd (omega (arith, few, has-two more (p - length es) (q - length es) (omega (arith, lt, l, k)) (omega (arith, n, k, n-app)) ep eq))
        | inr ge ↦ absurd (omega (arith, few, has-two more (q - length es) (p - length es) (omega (arith, ge, other, l, k)) (omega (arith, m, l, n-app)) eq ep))
      ]
    ]
