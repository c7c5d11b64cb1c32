-- A sum of numbers is at most another if each of its numbers that is not 0 has a number of the other for itself, which is no less.
use Rattle.std.proofs.Common.{◌≡◌, ◌≢◌, ℕ, zero, suc, ◌+◌, ◌<◌, ◌≤◌, cond, sym, ◌∙◌, ap, refl, subst, arith, inl, inr}
use Rattle.std.specs.Prelude.{nat_eq}
use Rattle.std.proofs.lemmas.Bool.{cases_eq, eq-eqb, ne_eqb, cases_lt}

-- the sum of n numbers from that at i on
abbrev pub sum_from : (ℕ → ℕ) → ℕ → ℕ → ℕ
sum_from w i zero = 0
sum_from w i (suc n) = w i + sum_from w (suc i) n

-- the numbers with 0 at j
without_at : ℕ → (ℕ → ℕ) → ℕ → ℕ
without_at j v k = cond (nat_eq k j) 0 (v k)

without-here : (j : ℕ) (v : ℕ → ℕ) → without_at j v j ≡ 0
unfolding without_at
without-here j v = ap (λ b. cond b 0 (v j)) (eq-eqb j j refl)

without-other : (j k : ℕ) (v : ℕ → ℕ) → k ≢ j → without_at j v k ≡ v k
unfolding without_at
without-other j k v n = ap (λ b. cond b 0 (v k)) (ne_eqb k j n)

sum-agrees : (v w : ℕ → ℕ) (i n : ℕ) → ((k : ℕ) → i ≤ k → v k ≡ w k) → sum_from v i n ≡ sum_from w i n
sum-agrees v w i zero h = refl
sum-agrees v w i (suc n) h =
    let a : v i ≡ w i = h i (omega arith) in
    let b : sum_from v (suc i) n ≡ sum_from w (suc i) n = sum-agrees v w (suc i) n (λ k l. h k (omega arith)) in
    omega arith

-- a number and the sum without it
sum-without : (v : ℕ → ℕ) (j i n : ℕ) → i ≤ j → j < i + n → sum_from v i n ≡ v j + sum_from (without_at j v) i n
sum-without v j i zero l h = absurd (omega arith)
sum-without v j i (suc n) l h = elim (cases_eq i j) [
  | inl e ↦
      let a : without_at j v i ≡ 0 = ap (without_at j v) e ∙ without-here j v in
      let b : sum_from v (suc i) n ≡ sum_from (without_at j v) (suc i) n =
      sum-agrees v (without_at j v) (suc i) n (λ k m. sym (without-other j k v (λ q. omega arith))) in
      let c : v i ≡ v j = ap v e in
      omega arith
  | inr d ↦
      let a : without_at j v i ≡ v i = without-other j i v d in
      let b : sum_from v (suc i) n ≡ v j + sum_from (without_at j v) (suc i) n = sum-without v j (suc i) n (omega arith) (omega arith) in
      omega arith
]

-- no two numbers have the same one for themselves
pub sum-at_most : (n i m : ℕ) (w v : ℕ → ℕ) (P : ℕ → ℕ → Type 0) →
    ((k : ℕ) → i ≤ k → k < i + n → 0 < w k → (j : ℕ) × (j < m) × (w k ≤ v j) × P k j) → ((k l j : ℕ) → P k j → P l j → k ≡ l) →
    sum_from w i n ≤ sum_from v 0 m
sum-at_most zero i m w v P there own = omega arith
sum-at_most (suc n) i m w v P there own = elim (cases_lt 0 (w i)) [
  | inr none ↦
      let rest : sum_from w (suc i) n ≤ sum_from v 0 m = sum-at_most n (suc i) m w v P (λ k l h p. there k (omega arith) (omega arith) p) own in
      omega arith
  | inl some ↦
      let r : (j : ℕ) × (j < m) × (w i ≤ v j) × P i j = there i (omega arith) (omega arith) some in
      let le : w i ≤ v r.0 = r.2 in
      let split : sum_from v 0 m ≡ v r.0 + sum_from (without_at r.0 v) 0 m = sum-without v r.0 0 m (omega arith) (omega (arith, r.1)) in
      let rest : sum_from w (suc i) n ≤ sum_from (without_at r.0 v) 0 m = sum-at_most n (suc i) m w (without_at r.0 v) P
      (λ k l h p.
      let q : (j : ℕ) × (j < m) × (w k ≤ v j) × P k j = there k (omega arith) (omega arith) p in
      let other : q.0 ≢ r.0 = λ e. let same : k ≡ i = own k i r.0 (subst (P k) e q.3) r.3 in omega arith in
      (q.0, q.1, subst (λ z. w k ≤ z) (sym (without-other r.0 q.0 v other)) q.2, q.3)) own in
      omega arith
]
