-- The test of nameless arguments answers true exactly at equal ones.
use Rattle.std.proofs.Common.{◌≡◌, ◌↔◌, ℕ, sym, ◌∙◌, ap, List, [], ◌∷◌, refl, true}
use Rattle.std.specs.Prelude.{◌&&◌, nat_eq, IsTrue}
use Rattle.std.proofs.lemmas.Bool.{eqb-true, eq-eqb, and_parts, and_from, false≢true}
use Rattle.slotted_theory.specs.Nameless.{DArgs, stop, place, sub, scope}
use Rattle.slotted_theory.specs.Decided.{numbers_eq, lists_eq, args_eq}

pub numbers_eq-true : (xs ys : List ℕ) → numbers_eq xs ys ≡ true → xs ≡ ys
numbers_eq-true [] [] e = refl
numbers_eq-true (x ∷ xs) (y ∷ ys) e = let p = and_parts (nat_eq x y) (numbers_eq xs ys) e in λ i. eqb-true x y p.0 i ∷ numbers_eq-true xs ys p.1 i
numbers_eq-true _ _ e = absurd (false≢true e)

lists_eq-true : (xs ys : List (List ℕ)) → lists_eq xs ys ≡ true → xs ≡ ys
lists_eq-true [] [] e = refl
lists_eq-true (x ∷ xs) (y ∷ ys) e = let p = and_parts (numbers_eq x y) (lists_eq xs ys) e in λ i. numbers_eq-true x y p.0 i ∷ lists_eq-true xs ys p.1 i
lists_eq-true _ _ e = absurd (false≢true e)

args_eq-true : (a b : DArgs) → args_eq a b ≡ true → a ≡ b
args_eq-true stop stop e = refl
args_eq-true (place x rest) (place y rest') e = let p = and_parts (nat_eq x y) (args_eq rest rest') e in λ i. place (eqb-true x y p.0 i) (args_eq-true rest rest' p.1 i)
args_eq-true (sub o p a rest) (sub o' p' a' rest') e =
    let q = and_parts (nat_eq o o') (lists_eq p p' && (args_eq a a' && args_eq rest rest')) e in
    let r = and_parts (lists_eq p p') (args_eq a a' && args_eq rest rest') q.1 in
    let s = and_parts (args_eq a a') (args_eq rest rest') r.1 in
    λ i. sub (eqb-true o o' q.0 i) (lists_eq-true p p' r.0 i) (args_eq-true a a' s.0 i) (args_eq-true rest rest' s.1 i)
args_eq-true (scope a rest) (scope a' rest') e = let p = and_parts (args_eq a a') (args_eq rest rest') e in λ i. scope (args_eq-true a a' p.0 i) (args_eq-true rest rest' p.1 i)
args_eq-true _ _ e = absurd (false≢true e)

pub numbers_eq-same : (xs : List ℕ) → numbers_eq xs xs ≡ true
numbers_eq-same [] = refl
numbers_eq-same (x ∷ xs) = and_from _ _ (eq-eqb x x refl) (numbers_eq-same xs)

lists_eq-same : (xs : List (List ℕ)) → lists_eq xs xs ≡ true
lists_eq-same [] = refl
lists_eq-same (x ∷ xs) = and_from _ _ (numbers_eq-same x) (lists_eq-same xs)

args_eq-same : (a : DArgs) → args_eq a a ≡ true
args_eq-same stop = refl
args_eq-same (place x rest) = and_from _ _ (eq-eqb x x refl) (args_eq-same rest)
args_eq-same (sub o p a rest) = and_from _ _ (eq-eqb o o refl) (and_from _ _ (lists_eq-same p) (and_from _ _ (args_eq-same a) (args_eq-same rest)))
args_eq-same (scope a rest) = and_from _ _ (args_eq-same a) (args_eq-same rest)

pub args_eq_iff : (a b : DArgs) → IsTrue (args_eq a b) ↔ (a ≡ b)
args_eq_iff a b = (args_eq-true a b, λ e. ap (args_eq a) (sym e) ∙ args_eq-same a)
