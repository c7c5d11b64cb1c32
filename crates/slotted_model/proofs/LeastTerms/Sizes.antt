-- The size of a tree up to a limit is a lawful cost.
use Rattle.std.proofs.Common.{◌≡◌, ℕ, suc, ◌+◌, ◌≤◌, List, [], ◌∷◌, refl, arith, inl, inr}
use Rattle.std.specs.Prelude.{Contains, min, max, sum}
use Rattle.std.proofs.lemmas.Bool.{le-leb, leb-true}
use Rattle.std.proofs.lemmas.Bool.Decides.{leb_tells}
use Rattle.std.proofs.lemmas.List.Sums.{sum_by-cons}
use Rattle.slotted_lists.proofs.Contained.{contains_head, contains_tail, contains_cases, Contains-nil}
use Rattle.slotted_theory.specs.Nameless.{DTerm}
use Rattle.slotted_model.specs.Cost.{EachAtMost, IsLawful, IsTotal, dearest, limited_size}

sum-first : (x : ℕ) (xs : List ℕ) → sum (x ∷ xs) ≡ x + sum xs
sum-first x xs = sum_by-cons (λ y. y) x xs

-- each cost is at most the sum and the dearest
each-within : (xs : List ℕ) (x : ℕ) → Contains xs x → (x ≤ sum xs) × (x ≤ dearest xs)
each-within [] x c = absurd (Contains-nil x c)
each-within (y ∷ ys) x c =
    let s : sum (y ∷ ys) ≡ y + sum ys = sum-first y ys in
    elim (contains_cases y ys x c) [
      | inl e ↦ (omega (arith, e), omega (arith, e))
      | inr h ↦ let r = each-within ys x h in let a : x ≤ sum ys = r.0 in let b : x ≤ dearest ys = r.1 in (omega arith, omega arith)
    ]

dearest-within : (limit : ℕ) (xs : List ℕ) → ((x : ℕ) → Contains xs x → x ≤ limit) → dearest xs ≤ limit
dearest-within limit [] h = omega arith
dearest-within limit (y ∷ ys) h =
    let a : y ≤ limit = h y (contains_head y ys) in
    let b : dearest ys ≤ limit = dearest-within limit ys (λ x c. h x (contains_tail y ys x c)) in
    omega arith

module _ (limit : ℕ) where
  both-rise : (xs ys : List ℕ) → EachAtMost (limited_size limit) xs ys → (sum xs ≤ sum ys) × (dearest xs ≤ dearest ys)
  both-rise [] [] h = (omega arith, omega arith)
  both-rise (x ∷ xs) (y ∷ ys) h =
      let r = both-rise xs ys h.1 in
      let a : sum xs ≤ sum ys = r.0 in
      let b : dearest xs ≤ dearest ys = r.1 in
      let le : x ≤ y = leb-true x y h.0 in
      let s : sum (x ∷ xs) ≡ x + sum xs = sum-first x xs in
      let t : sum (y ∷ ys) ≡ y + sum ys = sum-first y ys in
      (omega arith, omega arith)
  both-rise [] (y ∷ ys) h = absurd h
  both-rise (x ∷ xs) [] h = absurd h

  pub size-lawful : IsLawful ℕ (limited_size limit)
  size-lawful = record {
    reflexive = λ x. le-leb x x (omega arith);
    transitive = λ x y z p q. let a : x ≤ y = leb-true x y p in let b : y ≤ z = leb-true y z q in le-leb x z (omega arith);
    alike = λ d e xs p q a n. refl;
    rises = λ d xs ys p n h.
        let r = both-rise xs ys h in
        let a : sum xs ≤ sum ys = r.0 in
        let b : dearest xs ≤ dearest ys = r.1 in
        le-leb (min (suc (sum xs)) (max limit (dearest xs))) (min (suc (sum ys)) (max limit (dearest ys))) (omega arith);
    no_less = λ d xs p n x c.
        let r = each-within xs x c in
        let a : x ≤ sum xs = r.0 in
        let b : x ≤ dearest xs = r.1 in
        le-leb x (min (suc (sum xs)) (max limit (dearest xs))) (omega arith);
  }

  pub size-total : IsTotal (limited_size limit)
  size-total x y = elim (leb_tells x y) [
    | inl le ↦ inl le.0
    | inr more ↦ inr (le-leb y x (omega (arith, more.1)))
  ]

  pub size-within : (d : DTerm) (xs : List ℕ) → ((x : ℕ) → Contains xs x → x ≤ limit) → min (suc (sum xs)) (max limit (dearest xs)) ≡ min (suc (sum xs)) limit
  size-within d xs h = let le : dearest xs ≤ limit = dearest-within limit xs h in omega arith
