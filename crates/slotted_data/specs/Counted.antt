-- What is noted of turns for data, and what is told of the last rebuild.
--     most_fall               a fall of heights that is counted ends at this
--     turned c n f m t        what turns for data did, after m more of them
--     with_turns d n f m t    they were noted
--     last_of c t             the last rebuild, which is one of turns for data if these came after all others
--     told_at c n             what is told of it in a graph of the size n
--     IsWithinBound c         it took no more turns than its bound allows
--     most_size               no graph has a larger size
--     totals_with c t         the totals over all rebuilds
--     heights_of lives a i xs the heights of those data whose class lives, where the first one is that of the class i
use Rattle.std.specs.Prelude.{◌≤◌, ℕ, suc, ◌+◌, ◌-◌, ◌*◌, ◌^◌, min, List, [], ◌∷◌, Bool, ◌&&◌, cond, nat_eq, nat_lt}
use Rattle.slotted_model_analyses.specs.Analysis.{Analysis}
use Rattle.slotted_classes.specs.Counts.{Counts, most_bound, most_turns, noted}
use Rattle.slotted_classes.specs.declared.counts.RebuildCount.{RebuildCount}
use Rattle.slotted_data.specs.Held.{DataCounts, Held}

abbrev pub most_fall : ℕ
most_fall = 2 ^ 64 - 1

-- after m turns, by which heights fell by f, where n nodes are filed and other rebuilds had these totals; no turns change nothing
abbrev pub turned : DataCounts → ℕ → ℕ → ℕ → ℕ × ℕ → DataCounts
turned c n f m totals = cond (nat_eq m 0) c (record { own = noted c.own n f 0 m; rebuilt = totals })

abbrev pub with_turns : {D : Type 0} → Held D → ℕ → ℕ → ℕ → ℕ × ℕ → Held D
with_turns d n f m totals = record d { counts = turned d.counts n f m totals }

-- whether turns for data were taken, and no other rebuild has been noted since
abbrev pub came_last : Counts → DataCounts → Bool
came_last c t = nat_lt 0 t.own.turns && (nat_eq t.rebuilt.0 c.total_turns && nat_eq t.rebuilt.1 c.total_bound)

abbrev pub last_of : Counts → DataCounts → Counts
last_of c t = cond (came_last c t) t.own c

-- the size that it left is that of the graph, and the size that it found is larger by as much as it fell
abbrev pub told_at : Counts → ℕ → RebuildCount
told_at c n = record { nodes = c.nodes; size_before = min (n + (c.size_before - c.size_after)) most_bound; size_after = n; turns = c.turns }

-- no more turns than one for each node, and once more for each unit by which the size fell
pub record IsWithinBound (c : RebuildCount) : Type 0 where
  pub turns : c.turns ≤ c.nodes * suc (c.size_before - c.size_after)
  pub falls : c.size_after ≤ c.size_before

-- no graph has a larger size: there are fewer than 2^63 classes, each has fewer than 2^64 slots, and a height is below 2^32
abbrev pub most_size : ℕ
most_size = 2 ^ 63 * (2 ^ 64 + 2 ^ 32)

abbrev pub totals_with : Counts → DataCounts → ℕ × ℕ
totals_with c t = (min (c.total_turns + t.own.total_turns) most_turns, min (c.total_bound + t.own.total_bound) most_bound)

abbrev pub heights_of : {D : Type 0} → (ℕ → Bool) → Analysis D → ℕ → List D → ℕ
heights_of lives a i [] = 0
heights_of lives a i (x ∷ xs) = cond (lives i) (a.height x) 0 + heights_of lives a (suc i) xs
