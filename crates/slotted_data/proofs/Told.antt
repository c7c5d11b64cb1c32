-- What is told of the last rebuild is within its bound, and where no turns were taken for data it is that of the graph.
use Rattle.std.proofs.Common.{◌≡◌, ◌<◌, ◌≤◌, ◌+◌, ◌-◌, ◌*◌, ◌^◌, ℕ, zero, suc, List, [], ◌∷◌, length, Bool, true, false, cond, sym, refl, subst, arith, inl, inr}
use Rattle.std.specs.Prelude.{min, slice_index_or}
use Rattle.std.proofs.lemmas.Bool.{cases_lt}
use Rattle.std.proofs.Math.Nat.{min-eq_left, min-eq_right}
use Rattle.slotted_model_analyses.specs.Analysis.{Analysis}
use Rattle.slotted_classes.specs.Counts.{Counts, last_count, most_bound}
use Rattle.slotted_rebuilding.specs.Counted.{CountsFit}
use Rattle.slotted_data.specs.Counted.{IsWithinBound, came_last, heights_of, last_of, most_size, told_at}
use Rattle.slotted_data.specs.Held.{DataCounts, no_turns}

-- low data has no heights
pub heights-low : {D : Type 0} (lives : ℕ → Bool) (a : Analysis D) (i : ℕ) (xs : List D) → ((j : ℕ) → j < length xs → (x : D) → a.height (slice_index_or xs j x) ≡ 0) → heights_of lives a i xs ≡ 0
heights-low lives a i [] low = refl
heights-low lives a i (x ∷ xs) low =
    let here : a.height x ≡ 0 = low 0 (omega arith) x in
    let rest : heights_of lives a (suc i) xs ≡ 0 = heights-low lives a (suc i) xs (λ j h. low (suc j) (omega (arith, h))) in
    elim (lives i) as (λ b. cond b (a.height x) 0 + heights_of lives a (suc i) xs ≡ 0) [
      | true ↦ omega (arith, here, rest)
      | false ↦ omega (arith, rest)
    ]

-- the last rebuild of a graph without turns for data
pub told-still : (c : Counts) (t : DataCounts) (n h : ℕ) → t ≡ no_turns → h ≡ 0 → CountsFit c n → c.size_before ≤ most_bound → last_count c ≡ told_at (last_of c t) (n + h)
told-still c t n h none low fit within =
    let after = fit.after in
    let falls = fit.falls in
    let found : c.size_before ≡ min (n + h + (c.size_before - c.size_after)) most_bound = omega (arith, low, after, falls, within) in
    let left : c.size_after ≡ n + h = omega (arith, low, after) in
    subst (λ (u : DataCounts). last_count c ≡ told_at (last_of c u) (n + h)) (sym none)
    (λ i. record { nodes = c.nodes; size_before = found i; size_after = left i; turns = c.turns })

-- both counts fit, so the last one does
pub last-few : (c : Counts) (t : DataCounts) (n : ℕ) → CountsFit c n → CountsFit t.own 0 → (last_of c t).turns ≤ (last_of c t).nodes * suc ((last_of c t).size_before - (last_of c t).size_after)
last-few c t n fit own = elim (came_last c t) as (λ b. (cond b t.own c).turns ≤ (cond b t.own c).nodes * suc ((cond b t.own c).size_before - (cond b t.own c).size_after)) [
  | true ↦ own.turns
  | false ↦ fit.turns
]

-- where the sum of size and fall would be too large, the fall is still larger than any number of turns
still-few : (turns nodes fall size : ℕ) → turns ≤ nodes * suc fall → turns < 2 ^ 64 → size ≤ most_size → turns ≤ nodes * suc (min (size + fall) most_bound - size)
still-few turns zero fall size few small within = omega (arith, few)
still-few turns (suc n) fall size few small within = elim (cases_lt most_bound (size + fall)) [
  | inl over ↦
      let e : min (size + fall) most_bound ≡ most_bound = min-eq_right (omega (arith, over)) in
      let wide : turns ≤ suc (most_bound - size) = omega (arith, small, within) in
      let all : suc n * suc (most_bound - size) ≡ suc (most_bound - size) + n * suc (most_bound - size) = omega arith in
      subst (λ m. turns ≤ suc n * suc (m - size)) (sym e) (omega (arith, wide, all))
  | inr fits ↦
      let e : min (size + fall) most_bound ≡ size + fall = min-eq_left fits in
      let same : fall ≡ size + fall - size = omega arith in
      subst (λ m. turns ≤ suc n * suc (m - size)) (sym e) (subst (λ m. turns ≤ suc n * suc m) same few)
]

pub told-within : (turns nodes fall size before : ℕ) → turns ≤ nodes * suc fall → turns < 2 ^ 64 → size ≤ most_size → before ≡ min (size + fall) most_bound →
    IsWithinBound (record { nodes = nodes; size_before = before; size_after = size; turns = turns })
told-within turns nodes fall size before few small within is = record {
  turns = subst (λ m. turns ≤ nodes * suc (m - size)) (sym is) (still-few turns nodes fall size few small within);
  falls = omega (arith, is, within);
}
