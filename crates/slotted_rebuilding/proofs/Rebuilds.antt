-- A rebuild, turn by turn.
use Rattle.std.proofs.Common.{◌≡◌, ◌<◌, ◌≤◌, ◌+◌, ℕ, List, [], ◌∷◌, length, ap, sym, subst, refl, arith}
use Rattle.std.specs.Prelude.{None, slice_get}
use Rattle.std.proofs.lemmas.Option.{none-some}
use Rattle.slotted_model.specs.Rebuild.{Runs}
use Rattle.slotted_classes.specs.Counts.{Counts, noted}
use Rattle.slotted_classes.specs.Kept.{Kept, size_of, with_counts}
use Rattle.slotted_classes.specs.Stored.{Stored}
use Rattle.slotted_hashcons.specs.FiledRows.{Rows, rows_in}
use Rattle.slotted_rebuilding.proofs.KeptSlots.{grows-then, grows-uncounted}
use Rattle.slotted_hashcons.specs.WellFiled.{state_in, IsWellFiled}
use Rattle.slotted_rebuilding.specs.Filed.{SettlesFiled}
use Rattle.slotted_rebuilding.specs.Turns.{Rebuilds, RebuildsAll, RebuildsSoFar, TakesTurns}
use Rattle.slotted_rebuilding.specs.Work.{work}
use Rattle.slotted_rebuilding.proofs.RebuildCounts.{run-counted}
use Rattle.slotted_rebuilding.proofs.Runs.{runs-join, runs-work, runs-work_less}

-- before the first turn
pub settled-first : (k : Kept) (r : Rows) (l : Kept) (q : Rows) → SettlesFiled k r l q → RebuildsSoFar k r l q 0
settled-first k r l q s = record { turns = 0; at_least = omega arith; runs = s.runs; filed = s.filed; grows = s.grows; settled = s.settled }

module _ (k : Kept) (r : Rows) (l : Kept) (q : Rows) (counted : ℕ) (so_far : RebuildsSoFar k r l q counted) (m : Kept) (s : Rows) (turned : TakesTurns l q m s) (n : Kept) (t : Rows) (settled : SettlesFiled m s n t) where
  -- after one more
  pub one-more : (more : ℕ) → more ≤ counted + 1 → RebuildsSoFar k r n t more
  one-more more small = record {
    turns = so_far.turns + turned.turns;
    at_least = let a = so_far.at_least in let b = turned.some in omega (arith, a, b, small);
    runs = subst (λ x. Runs (state_in k r) x (state_in n t)) (plus-zero (so_far.turns + turned.turns))
        (runs-join (state_in k r) (state_in m s) (state_in n t) (so_far.turns + turned.turns) 0
        (runs-join (state_in k r) (state_in l q) (state_in m s) so_far.turns turned.turns so_far.runs turned.runs) settled.runs);
    filed = settled.filed;
    grows = grows-then k m n (grows-then k l m so_far.grows turned.grows) settled.grows;
    settled = settled.settled;
  }
    where
      plus-zero : (x : ℕ) → x + 0 ≡ x
      plus-zero x = omega arith

  -- and less is left to do
  pub less-work : work (state_in n t) < work (state_in l q)
  less-work =
      let a : work (state_in m s) < work (state_in l q) = runs-work_less (state_in l q) (state_in m s) turned.turns so_far.filed.sane turned.runs turned.some in
      let b : work (state_in n t) ≤ work (state_in m s) = runs-work (state_in m s) (state_in n t) 0 turned.filed.sane settled.runs in
      omega (arith, a, b)

no-first : (w : List ℕ) → None ≡ slice_get w 0 → w ≡ []
no-first [] e = refl
no-first (x ∷ w) e = absurd (none-some x e)

-- where no class waits, nothing is left to do
pub nothing-left : (k : Kept) (r : Rows) (l : Kept) (q : Rows) (counted : ℕ) → RebuildsSoFar k r l q counted → None ≡ slice_get q.waiting 0 → RebuildsAll k r l q counted
nothing-left k r l q counted s e = record { so_far = s; nothing_left = (no-first q.waiting e, λ y c. s.filed.stored.settled s.settled y c) }

-- what is noted changes nothing else

noted-stored : (k : Kept) (c : Counts) → Stored k → Stored (with_counts k c)
noted-stored k c stored = record {
  sane = stored.sane;
  proved = stored.proved;
  later = stored.later;
  sides = λ y h. let s = stored.sides y h in record { left = s.left; right = s.right; class = s.class; slots = s.slots; left_known = s.left_known; right_known = s.right_known };
  once = stored.once;
  settled = stored.settled;
}

pub noted-filed : (k : Kept) (r : Rows) (c : Counts) → IsWellFiled k r → IsWellFiled (with_counts k c) r
noted-filed k r c well = record {
  stored = noted-stored k c well.stored;
  canonical = well.canonical;
  fits = well.fits;
  count = well.count;
  sane = well.sane;
  keyed = well.keyed;
  places = well.places;
}

-- all of this is noted
pub all-noted : (k : Kept) (r : Rows) (l : Kept) (q : Rows) (counted : ℕ) → IsWellFiled k r → RebuildsAll k r l q counted → (m : Kept) →
    m ≡ with_counts l (noted l.counts (length (rows_in r.filed)) (size_of k) (size_of l) counted) → Rebuilds k r m q counted
all-noted k r l q counted well all m is =
    let so_far = all.so_far in
    let c : Counts = noted l.counts (length (rows_in r.filed)) (size_of k) (size_of l) counted in
    let few = run-counted (state_in k r) (state_in l q) so_far.turns counted well.sane so_far.runs so_far.at_least in
    subst (λ (z : Kept). Rebuilds k r z q counted) (sym is) (record {
      turns = so_far.turns;
      at_least = so_far.at_least;
      runs = so_far.runs;
      filed = noted-filed l q c so_far.filed;
      grows = grows-uncounted k l so_far.grows;
      nothing_left = all.nothing_left;
      settled = so_far.settled;
      notes = record {
        counts = ap (λ (d : Counts). noted d (length (rows_in r.filed)) (size_of k) (size_of l) counted) so_far.grows.counts;
        bounded = few.0;
        falls = few.1;
      };
    })
