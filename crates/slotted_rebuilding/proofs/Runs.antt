-- Runs: two, one after the other, are one; each keeps a graph sane, and lowers the work that is left.
use Rattle.std.proofs.Common.{◌≡◌, ℕ, suc, ◌+◌, ◌*◌, ◌<◌, ◌≤◌, length, subst, inl, inr, arith}
use Rattle.std.proofs.Math.Nat.{mul-le-mul_left, mul-le-mul_right}
use Rattle.slotted_model.specs.State.{State}
use Rattle.slotted_model.specs.Rest.{Sane, size}
use Rattle.slotted_model.specs.Changes.{Unites}
use Rattle.slotted_model.specs.Rebuild.{Turn, Acts, Runs, starts, takes_turn, takes_act, HasTurned, HasActed}
use Rattle.slotted_model.proofs.Rebuilding.Turning.{turned, acted, waits-below, run}
use Rattle.slotted_model.proofs.Rebuilding.Unions.{unites}
use Rattle.slotted_rebuilding.specs.Work.{work}

-- one run after another
goes-on : (f g : State) (n : ℕ) → Runs f n g → {m : ℕ} {h : State} → Runs g m h → Runs f (n + m) h
goes-on f g n r starts = subst (λ k. Runs f k g) (omega arith) r
goes-on f g n r (takes_turn {n = m} {g = i} {h = h} q t) = subst (λ k. Runs f k h) (omega arith) (takes_turn (goes-on f g n r q) t)
goes-on f g n r (takes_act q a) = takes_act (goes-on f g n r q) a

pub runs-join : (f g h : State) (n m : ℕ) → Runs f n g → Runs g m h → Runs f (n + m) h
runs-join f g h n m r q = goes-on f g n r q

pub runs-sane : (f h : State) (n : ℕ) → Sane f → Runs f n h → Sane h
runs-sane f h n sane r = (run f sane r).rebuilt.sane

pub turn-sane : (g h : State) → Sane g → Turn g h → Sane h
turn-sane g h sane t = (turned t sane).rebuilt.sane

pub act-sane : (g h : State) → Sane g → Acts g h → Sane h
act-sane g h sane a = (acted a sane).rebuilt.sane

pub unites-sane : (p : ℕ) (g h : State) → Sane g → p < length g.proofs → Unites p g h → Sane h
unites-sane p g h sane k u = (unites p u sane k).sane

-- where the size falls from t to s, and rows from q to r at most
size-falls : (s t r q w v : ℕ) → s < t → r ≤ q → w ≤ r → s * suc r + w < t * suc q + v
size-falls s t r q w v l m k =
    let a : s * suc r ≤ s * suc q = mul-le-mul_left s (omega (arith, m)) in
    let b : suc s * suc q ≤ t * suc q = mul-le-mul_right (suc q) (omega (arith, l)) in
    let c : suc s * suc q ≡ s * suc q + suc q = omega arith in
    omega arith

-- where it stays, and one less waits
waits-fall : (s t r q w v : ℕ) → s ≡ t → r ≤ q → suc w ≡ v → s * suc r + w < t * suc q + v
waits-fall s t r q w v e m k =
    let a : s * suc r ≤ s * suc q = mul-le-mul_left s (omega (arith, m)) in
    let b : s * suc q ≤ t * suc q = mul-le-mul_right (suc q) (omega (arith, e)) in
    omega arith

pub turn-works : (g h : State) → Sane g → Turn g h → work h < work g
turn-works g h sane t =
    let u : HasTurned g h = turned t sane in
    elim u.falls [
      | inl l ↦ size-falls (size h) (size g) (length h.rows) (length g.rows) (length h.waiting) (length g.waiting) l u.rebuilt.rows (waits-below h u.rebuilt.sane)
      | inr e ↦ waits-fall (size h) (size g) (length h.rows) (length g.rows) (length h.waiting) (length g.waiting) e.0 u.rebuilt.rows e.1
    ]

pub act-works : (g h : State) → Sane g → Acts g h → work h < work g
act-works g h sane a =
    let u : HasActed g h = acted a sane in
    size-falls (size h) (size g) (length h.rows) (length g.rows) (length h.waiting) (length g.waiting) u.smaller u.rebuilt.rows (waits-below h u.rebuilt.sane)

falls-by : (f : State) → Sane f → {n : ℕ} {h : State} → Runs f n h → n + work h ≤ work f
falls-by f sane starts = omega arith
falls-by f sane (takes_turn {n = n} {g = g} {h = h} r t) =
    let l : n + work g ≤ work f = falls-by f sane r in
    let m : work h < work g = turn-works g h (runs-sane f g n sane r) t in
    omega arith
falls-by f sane (takes_act {n = n} {g = g} {h = h} r a) =
    let l : n + work g ≤ work f = falls-by f sane r in
    let m : work h < work g = act-works g h (runs-sane f g n sane r) a in
    omega arith

-- a run lowers the work by its turns at least
pub runs-count : (f h : State) (n : ℕ) → Sane f → Runs f n h → n + work h ≤ work f
runs-count f h n sane r = falls-by f sane r

pub runs-work : (f h : State) (n : ℕ) → Sane f → Runs f n h → work h ≤ work f
runs-work f h n sane r = let l : n + work h ≤ work f = falls-by f sane r in omega arith

pub runs-work_less : (f h : State) (n : ℕ) → Sane f → Runs f n h → 0 < n → work h < work f
runs-work_less f h n sane r k = let l : n + work h ≤ work f = falls-by f sane r in omega arith
