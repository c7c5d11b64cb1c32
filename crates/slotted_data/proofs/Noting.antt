-- Turns that are noted change nothing but what is counted, and what is counted goes on within its bounds.
use Rattle.std.proofs.Common.{◌≡◌, ◌≤◌, ℕ, suc, ◌-◌, ◌*◌, true, false, cond, subst, arith}
use Rattle.std.specs.Prelude.{nat_eq}
use Rattle.slotted_model_analyses.specs.Analysis.{Analysis}
use Rattle.slotted_classes.specs.Counts.{noted}
use Rattle.slotted_classes.specs.Kept.{Kept}
use Rattle.slotted_hashcons.specs.FiledRows.{Rows}
use Rattle.slotted_rebuilding.specs.Counted.{CountsFit, CountsGo}
use Rattle.slotted_rebuilding.proofs.RebuildCounts.{counts-same, counts-then, noted-fits, noted-goes}
use Rattle.slotted_data.specs.Held.{DataCounts, Held}
use Rattle.slotted_data.specs.Counted.{turned, with_turns}
use Rattle.slotted_data.specs.Carrying.{Carried, DataRests, MergesIn}

module _ (c : DataCounts) (n f m : ℕ) (totals : ℕ × ℕ) (few : m ≤ n * suc f) (fit : CountsFit c.own 0) where
  next : DataCounts
  next = record { own = noted c.own n f 0 m; rebuilt = totals }

  few-left : m ≤ n * suc (f - 0)
  few-left = let e : f ≡ f - 0 = omega arith in subst (λ x. m ≤ n * suc x) e few

  pub turned-goes : CountsGo c.own (turned c n f m totals).own
  unfolding next
  turned-goes = elim (nat_eq m 0) as (λ b. CountsGo c.own (cond b c next).own) [
    | true ↦ counts-same c.own
    | false ↦ noted-goes c.own n f 0 m few-left fit.totals
  ]

  pub turned-fits : CountsFit (turned c n f m totals).own 0
  unfolding next
  turned-fits = elim (nat_eq m 0) as (λ b. CountsFit (cond b c next).own 0) [
    | true ↦ fit
    | false ↦ noted-fits c.own n f 0 m few-left fit.totals (omega arith)
  ]

module _ {D : Type 0} (a : Analysis D) (l : Kept) (q : Rows) (e : Held D) (n f m : ℕ) (totals : ℕ × ℕ) (few : m ≤ n * suc f) (is_tall : e.tall ≡ true) where
  rests-noted : DataRests a l q e → DataRests a l q (with_turns e n f m totals)
  rests-noted rests = record {
    rest = rests.rest;
    count = rests.count;
    has = rests.has;
    users = record { cover = rests.users.cover; only = rests.users.only; within = rests.users.within };
    all = rests.all;
    low = rests.low;
    carried = rests.carried;
    dead = rests.dead;
    counts = turned-fits e.counts n f m totals few rests.counts;
    still = λ short. absurd cc;
    high = rests.high;
  }

  pub carried-noted : (k : Kept) (r : Rows) (d : Held D) → Carried a k r l q d e → Carried a k r l q d (with_turns e n f m totals)
  carried-noted k r d carried = record {
    rests = rests-noted carried.rests;
    down = carried.down;
    grounded = carried.grounded;
    noted = carried.noted;
    counts = counts-then d.counts.own e.counts.own (turned e.counts n f m totals).own carried.counts (turned-goes e.counts n f m totals few carried.rests.counts);
  }

  pub merges-noted : (i : ℕ) (v : D) (d : Held D) → MergesIn a l q i v d e → MergesIn a l q i v d (with_turns e n f m totals)
  merges-noted i v d merges = record {
    rests = rests-noted merges.rests;
    merges = merges.merges;
    absorbs = merges.absorbs;
    down = merges.down;
    grounded = merges.grounded;
    counts = counts-then d.counts.own e.counts.own (turned e.counts n f m totals).own merges.counts (turned-goes e.counts n f m totals few merges.rests.counts);
  }
