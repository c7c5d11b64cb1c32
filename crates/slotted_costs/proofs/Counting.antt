-- How often a number stands in a list, and how many classes have no cost.
use Rattle.std.proofs.Common.{◌≡◌, ◌<◌, ℕ, zero, suc, ◌+◌, List, [], ◌∷◌, ◌++◌, length, get_or, Some, None, sym, ◌∙◌, ap, refl, subst, inl, inr, arith}
use Rattle.std.specs.Prelude.{◌≢◌, Bool, true, false, nat_eq, set, Contains}
use Rattle.std.proofs.lemmas.Bool.{cases_eq, eq-eqb, ne_eqb}
use Rattle.slotted_lists.proofs.Contained.{contains_head, contains_tail, contains_cases, Contains-nil}
use Rattle.slotted_model.specs.Extraction.{TableEntry, cost_in, costs_in}
use Rattle.slotted_model.proofs.Data.Options.{both-some}
use Rattle.slotted_model.proofs.LeastTerms.Tables.{cost-here, cost-later}
use Rattle.slotted_costs.specs.Counts.{times, one_if, only_if, lacks, missing, one_if_any, unpriced}

pub one-same : (x y : ℕ) → y ≡ x → one_if (nat_eq y x) ≡ 1
one-same x y e = ap one_if (eq-eqb y x e)

pub one-other : (x y : ℕ) → y ≢ x → one_if (nat_eq y x) ≡ 0
one-other x y e = ap one_if (ne_eqb y x e)

pub only-same : (x y n : ℕ) → y ≡ x → only_if (nat_eq y x) n ≡ n
only-same x y n e = ap (λ b. only_if b n) (eq-eqb y x e)

pub only-other : (x y n : ℕ) → y ≢ x → only_if (nat_eq y x) n ≡ 0
only-other x y n e = ap (λ b. only_if b n) (ne_eqb y x e)

pub only-one : (b : Bool) → only_if b 1 ≡ one_if b
only-one true = refl
only-one false = refl

pub only-sum : (b : Bool) (m n : ℕ) → only_if b (m + n) ≡ only_if b m + only_if b n
only-sum true m n = refl
only-sum false m n = omega arith

pub times-append : (x : ℕ) (xs ys : List ℕ) → times x (xs ++ ys) ≡ times x xs + times x ys
times-append x [] ys = omega arith
times-append x (y ∷ xs) ys = let e : times x (xs ++ ys) ≡ times x xs + times x ys = times-append x xs ys in omega arith

-- one more
pub times-more : (x : ℕ) (xs : List ℕ) (y : ℕ) → times x (xs ++ y ∷ []) ≡ times x xs + one_if (nat_eq y x)
times-more x xs y = let e : times x (xs ++ y ∷ []) ≡ times x xs + (one_if (nat_eq y x) + 0) = times-append x xs (y ∷ []) in omega arith

pub times-there : (x : ℕ) (xs : List ℕ) → Contains xs x → 0 < times x xs
times-there x [] c = absurd (Contains-nil x c)
times-there x (y ∷ xs) c = elim (contains_cases y xs x c) [
  | inl e ↦ let o : one_if (nat_eq y x) ≡ 1 = one-same x y (sym e) in omega arith
  | inr h ↦ let p : 0 < times x xs = times-there x xs h in omega arith
]

pub times-contains : (x : ℕ) (xs : List ℕ) → 0 < times x xs → Contains xs x
times-contains x [] h = absurd (omega arith)
times-contains x (y ∷ xs) h = elim (cases_eq y x) [
  | inl e ↦ subst (Contains (y ∷ xs)) e (contains_head y xs)
  | inr n ↦ contains_tail y xs x (times-contains x xs (let o : one_if (nat_eq y x) ≡ 0 = one-other x y n in omega arith))
]

pub missing-start : (C : Type 0) (cs : List ℕ) → missing {C = C} [] cs ≡ length cs
missing-start C [] = refl
missing-start C (c ∷ cs) = let e : missing {C = C} [] cs ≡ length cs = missing-start C cs in omega arith

module _ {C : Type 0} where
  -- where all have a cost none is missing
  pub missing-none : (table : List (TableEntry C)) (cs : List ℕ) (xs : List C) → costs_in table cs ≡ Some xs → missing table cs ≡ 0
  missing-none table [] xs h = refl
  missing-none table (c ∷ cs) xs h =
      let r = both-some (λ x ys. x ∷ ys) (cost_in table c) (costs_in table cs) xs h in
      let e : missing table cs ≡ 0 = missing-none table cs r.1 r.3 in
      let o : lacks (cost_in table c) ≡ 0 = ap lacks r.2 in
      omega arith

  -- as many are missing less as the class stands there that got a cost
  pub missing-entered : (e : TableEntry C) (table : List (TableEntry C)) → cost_in table e.class ≡ None → (cs : List ℕ) → missing (e ∷ table) cs + times e.class cs ≡ missing table cs
  missing-entered e table new [] = refl
  missing-entered e table new (c ∷ cs) =
      let rest : missing (e ∷ table) cs + times e.class cs ≡ missing table cs = missing-entered e table new cs in
      elim (cases_eq e.class c) [
        | inl q ↦
            let a : lacks (cost_in (e ∷ table) c) ≡ 0 = ap lacks (cost-here e table c q) in
            let b : lacks (cost_in table c) ≡ 1 = ap lacks (ap (cost_in table) (sym q) ∙ new) in
            let o : one_if (nat_eq c e.class) ≡ 1 = one-same e.class c (sym q) in
            omega arith
        | inr n ↦
            let a : lacks (cost_in (e ∷ table) c) ≡ lacks (cost_in table c) = ap lacks (cost-later e table c n) in
            let o : one_if (nat_eq c e.class) ≡ 0 = one-other e.class c (λ s. n (sym s)) in
            omega arith
      ]

-- another count of a row
pub unpriced-set : (ns : List ℕ) (i n : ℕ) → i < length ns → unpriced (set ns i n) + one_if_any (get_or ns i 0) ≡ unpriced ns + one_if_any n
unpriced-set [] i n lt = absurd (omega arith)
unpriced-set (m ∷ ns) zero n lt = omega arith
unpriced-set (m ∷ ns) (suc i) n lt = let e : unpriced (set ns i n) + one_if_any (get_or ns i 0) ≡ unpriced ns + one_if_any n = unpriced-set ns i n (omega arith) in omega arith

pub any-suc : (n : ℕ) → 0 < n → one_if_any n ≡ 1
any-suc zero h = absurd (omega arith)
any-suc (suc n) h = refl

-- a place whose number is not 0 is within the list
pub within-positive : (ns : List ℕ) (i : ℕ) → 0 < get_or ns i 0 → i < length ns
within-positive [] i h = absurd (omega arith)
within-positive (n ∷ ns) zero h = omega arith
within-positive (n ∷ ns) (suc i) h = let l : i < length ns = within-positive ns i h in omega arith
