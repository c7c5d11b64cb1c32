-- Runs with their data: the runs of the graph below, and how many turns they take.
use Rattle.std.proofs.Common.{◌≡◌, ℕ, suc, ◌+◌, ◌-◌, ◌*◌, ◌<◌, ◌≤◌, length, ap, refl, inl, inr, arith}
use Rattle.std.specs.Prelude.{◌⊎◌}
use Rattle.std.proofs.lemmas.List.{length-map}
use Rattle.std.proofs.Math.Nat.{mul-le-mul_left, mul-suc, mul-add}
use Rattle.slotted_model.specs.Find.{find_class}
use Rattle.slotted_model.specs.State.{Row, State, sources}
use Rattle.slotted_model.specs.Rest.{Sane, Represents}
use Rattle.slotted_model.specs.Rebuild.{Runs, starts, takes_turn, takes_act, IsRebuilt}
use Rattle.slotted_model.proofs.Rebuilding.Touching.{different-length}
use Rattle.slotted_model.proofs.Rebuilding.Turning.{run, turned, ended}
use Rattle.slotted_model_analyses.specs.Analysis.{Analysis, IsMerge}
use Rattle.slotted_model_analyses.specs.DataPart.{DataPart, TakesData, takes, RunsWithData, HasData, size_with_data, GoesDown, DataGoesDown, HasNothingLeftWithData, RestsWithData}
use Rattle.slotted_model_analyses.specs.DataPart as with
use Rattle.slotted_model_analyses.proofs.Absorbing.{absorbs-same, absorbs-then}
use Rattle.slotted_model_analyses.proofs.Merging.{down-then, down-same}
use Rattle.slotted_model_analyses.proofs.Following.{HasFollowed, data-followed, followed, acted-followed}

module _ {D : Type 0} (a : Analysis D) where
  -- the run of the graph below, in which turns for data alone do not count
  pub below : {f : State} {s : DataPart D} {n : ℕ} {h : State} {t : DataPart D} → RunsWithData a f s n h t → (m : ℕ) × (m ≤ n) × Runs f m h
  below with.starts = (0, omega arith, starts)
  below (with.takes_turn r k f) = let b = below r in let l = b.1 in (suc b.0, omega arith, takes_turn b.2 k)
  below (with.takes_data r k) = let b = below r in let l = b.1 in (b.0, omega arith, b.2)
  below (with.takes_act r k f) = let b = below r in (b.0, b.1, takes_act b.2 k)

  -- one run after another
  pub run-then : {f g : State} {s t : DataPart D} {m n : ℕ} {h : State} {u : DataPart D} → RunsWithData a f s m g t → RunsWithData a g t n h u → (k : ℕ) × (k ≡ m + n) × RunsWithData a f s k h u
  run-then {m = m} r with.starts = (m, omega arith, r)
  run-then r (with.takes_turn x k f) = let y = run-then r x in let e = y.1 in (suc y.0, omega arith, with.takes_turn y.2 k f)
  run-then r (with.takes_data x k) = let y = run-then r x in let e = y.1 in (suc y.0, omega arith, with.takes_data y.2 k)
  run-then r (with.takes_act x k f) = let y = run-then r x in (y.0, y.1, with.takes_act y.2 k f)

  -- no more rows wait than there are
  pub pending-below : (g : State) (s : DataPart D) → HasData a g s → length s.pending ≤ length g.rows
  pending-below g s has =
      let l : length s.pending ≤ length (sources g.rows) = different-length s.pending (sources g.rows) has.waits_once has.waits_for_row in
      let e : length (sources g.rows) ≡ length g.rows = length-map g.rows (λ (r : Row). r.source) in
      omega arith

  -- where the size falls, as many turns are won as there are rows
  turns-won : (n small large : ℕ) → small < large → n * small + n ≤ n * large
  turns-won n small large l =
      let p : n * suc small ≤ n * large = mul-le-mul_left n (omega (arith, l)) in
      let q : n * suc small ≡ n * small + n = mul-suc n small in
      omega arith

  module _ (law : IsMerge D a) (f : State) (sane : Sane f) where
    -- what a run leads to, and how many turns it takes
    pub record HasRunWithData (s : DataPart D) (n : ℕ) (h : State) (t : DataPart D) : Type 0 where
      pub rebuilt : IsRebuilt f h
      pub has : HasData a h t
      pub classes : DataGoesDown a f s h t
      pub down : GoesDown a s t
      pub smaller : size_with_data a h t ≤ size_with_data a f s
      pub bounded : n + length t.pending + length f.rows * size_with_data a h t ≤ length f.rows + length f.rows * size_with_data a f s

    step-after : {s t u : DataPart D} {n : ℕ} {g h : State} → HasRunWithData s n g t → (m : ℕ) → IsRebuilt f h → HasFollowed a law g t h u →
        (m ≡ n) × (size_with_data a h u < size_with_data a g t) ⊎ (m ≡ suc n) × (0 < length t.pending) → HasRunWithData s m h u
    step-after {s} {t} {u} {n} {g} {h} k m rebuilt x count =
        let b : n + length t.pending + length f.rows * size_with_data a g t ≤ length f.rows + length f.rows * size_with_data a f s = k.bounded in
        let v : length u.pending ≤ length h.rows = pending-below h u x.has in
        let w : length h.rows ≤ length f.rows = rebuilt.rows in
        let z : size_with_data a g t ≤ size_with_data a f s = k.smaller in
        let N : length g.nodes ≡ length f.nodes = ap length k.rebuilt.same_nodes in
        record {
          rebuilt = rebuilt;
          has = x.has;
          classes = λ i j. absorbs-then a law (u.data_of (find_class h.found i)) (t.data_of (find_class g.found i)) (s.data_of (find_class f.found i)) (x.classes i (omega arith)) (k.classes i j);
          down = down-then a law s t u k.down x.down;
          smaller = elim x.falls [
            | inl l ↦ omega arith
            | inr e ↦ let q : size_with_data a h u ≡ size_with_data a g t = e.0 in omega arith
          ];
          bounded = elim x.falls [
            | inl l ↦
                let y : length f.rows * size_with_data a h u + length f.rows ≤ length f.rows * size_with_data a g t = turns-won (length f.rows) (size_with_data a h u) (size_with_data a g t) l in
                elim count [
                  | inl c ↦ let p : m ≡ n = c.0 in omega arith
                  | inr c ↦ let p : m ≡ suc n = c.0 in let q : 0 < length t.pending = c.1 in omega arith
                ]
            | inr e ↦ elim count [
              | inl c ↦ let p : size_with_data a h u < size_with_data a g t = c.1 in let q : size_with_data a h u ≡ size_with_data a g t = e.0 in absurd (omega arith)
              | inr c ↦
                  let p : m ≡ suc n = c.0 in
                  let y : length f.rows * size_with_data a h u ≡ length f.rows * size_with_data a g t = ap (λ x. length f.rows * x) e.0 in
                  let q : suc (length u.pending) ≡ length t.pending = e.1 in
                  omega arith
            ]
          ];
        }

    pub run-with : {s : DataPart D} {n : ℕ} {h : State} {t : DataPart D} → HasData a f s → RunsWithData a f s n h t → HasRunWithData s n h t
    run-with {s} has with.starts = record {
      rebuilt = (run f sane starts).rebuilt;
      has = has;
      classes = λ i j. absorbs-same a law (s.data_of (find_class f.found i));
      down = down-same a law s s.pending;
      smaller = omega arith;
      bounded = let l : length s.pending ≤ length f.rows = pending-below f s has in omega arith;
    }
    run-with {s} has (with.takes_turn {n = n} {g = g} {h = h} {t = t} {u = u} r k x) =
        let y : HasRunWithData s n g t = run-with has r in
        let z : HasFollowed a law g t h u = followed a law k y.rebuilt.sane t u y.has x in
        let l : length g.waiting ≤ length t.pending = different-length g.waiting t.pending y.rebuilt.sane.filed.waits_once y.has.waits_whole in
        let w : 0 < length g.waiting = (turned k y.rebuilt.sane).waited in
        step-after y (suc n) (run f sane (takes_turn (below r).2 k)).rebuilt z (inr (refl, omega arith))
    run-with {s} has (with.takes_data {n = n} {g = g} {t = t} {u = u} r k) =
        let y : HasRunWithData s n g t = run-with has r in
        step-after y (suc n) y.rebuilt (data-followed a law g y.rebuilt.sane t u y.has k) (inr (refl, data-waits k))
      where
        data-waits : {g : State} {t u : DataPart D} → TakesData a g t u → 0 < length t.pending
        data-waits (takes r there c alone merges) = let l = c.1 in omega arith
    run-with {s} has (with.takes_act {n = n} {g = g} {h = h} {t = t} {u = u} r k x) =
        let y : HasRunWithData s n g t = run-with has r in
        let z = acted-followed a law k y.rebuilt.sane t u y.has x in
        step-after y n (run f sane (takes_act (below r).2 k)).rebuilt z.0 (inl (refl, z.1))

    -- the bound on turns as it is counted
    pub counted-with : {s t : DataPart D} {n : ℕ} {h : State} → HasRunWithData s n h t → n + length t.pending ≤ length f.rows * (suc (size_with_data a f s) - size_with_data a h t)
    counted-with {s} {t} {n} {h} k =
        let N : ℕ = length f.rows in
        let x : ℕ = size_with_data a f s in
        let y : ℕ = size_with_data a h t in
        let b : n + length t.pending + N * y ≤ N + N * x = k.bounded in
        let l : y ≤ x = k.smaller in
        let e : suc x - y + y ≡ suc x = omega (arith, l) in
        let m : N * (suc x - y + y) ≡ N * (suc x - y) + N * y = mul-add N (suc x - y) y in
        let p : N * suc x ≡ N * x + N = mul-suc N x in
        let q : N * (suc x - y + y) ≡ N * suc x = ap (λ z. N * z) e in
        omega arith

    -- a run that has nothing left to do is at rest, with data
    pub ended-with : {s t : DataPart D} {n : ℕ} {h : State} → HasData a f s → Represents f → RunsWithData a f s n h t → HasNothingLeftWithData h t → RestsWithData a h t
    ended-with has represents r left = record { rest = ended f sane represents (below r).2 left.0; has = (run-with has r).has; nothing_waits = left.1 }
