-- What holds of what rebuilds noted.
--     TotalsFit c          in all rebuilds took no more turns than their bounds allow
--     CountsFit c n        nor did the last one, and it left the size n, which is no more than what it found
--     CountsGo c d         from c to d the totals rise, that of turns by no more than that of bounds
--     CountsOn k l         where what was noted of k fits, it goes on, and what was noted of l fits
--     NotesRebuild k r l n a rebuild of n turns was noted
use Rattle.std.specs.Prelude.{◌≡◌, ◌⊎◌, ◌≤◌, ◌-◌, ◌*◌, ℕ, suc, length}
use Rattle.slotted_classes.specs.Counts.{Counts, most_bound, most_turns, noted}
use Rattle.slotted_classes.specs.Kept.{Kept, size_of}
use Rattle.slotted_hashcons.specs.FiledRows.{Rows, rows_in}

-- both totals are within their ends, and that of turns is no more than that of bounds, unless this is at its end
pub record TotalsFit (c : Counts) : Type 0 where
  pub turns_end : c.total_turns ≤ most_turns
  pub bound_end : c.total_bound ≤ most_bound
  pub total : (c.total_turns ≤ c.total_bound) ⊎ (most_bound ≤ c.total_bound)

pub record CountsFit (c : Counts) (size : ℕ) : Type 0 where
  pub turns : c.turns ≤ c.nodes * suc (c.size_before - c.size_after)
  pub falls : c.size_after ≤ c.size_before
  pub after : c.size_after ≡ size
  pub totals : TotalsFit c

pub record CountsGo (c d : Counts) : Type 0 where
  pub turns : c.total_turns ≤ d.total_turns
  pub bound : c.total_bound ≤ d.total_bound
  pub rise : (d.total_turns - c.total_turns ≤ d.total_bound - c.total_bound) ⊎ (most_bound ≤ d.total_bound)

abbrev pub CountsOn : Kept → Kept → Type 0
CountsOn k l = CountsFit k.counts (size_of k) → CountsGo k.counts l.counts × CountsFit l.counts (size_of l)

-- a rebuild that found k and r led to l, which notes it, and it took as many turns, which its bound allows
pub record NotesRebuild (k : Kept) (r : Rows) (l : Kept) (turns : ℕ) : Type 0 where
  pub counts : l.counts ≡ noted k.counts (length (rows_in r.filed)) (size_of k) (size_of l) turns
  pub bounded : turns ≤ length (rows_in r.filed) * suc (size_of k - size_of l)
  pub falls : size_of l ≤ size_of k
