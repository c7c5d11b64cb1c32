-- What calls promise of the rebuilds that they ran.
--     IsWithinCounts g    the last rebuild of g and all so far took no more turns than their bounds allow, and the last one left the size of g
--     CountsUnion g h     from g to h a union noted a rebuild that found no more than g has
--     HasNoHeights m      no data has a height above 0
--     TellsRebuild .. g c c is the last rebuild of g: that of data if it came after all others
--     TellsTotals .. g t  t are the totals over all rebuilds of g, those of data too
--     RiseWithin t u      from t to u totals rise, that of turns by no more than that of bounds
use Rattle.std.specs.Prelude.{◌≡◌, ◌⊎◌, ◌≤◌, ◌+◌, ◌-◌, ℕ, length}
use Rattle.std.specs.Coded.{Coded}
use Rattle.slotted_classes.specs.Counts.{most_bound}
use Rattle.slotted_classes.specs.declared.counts.RebuildCount.{RebuildCount}
pub use Rattle.slotted_rebuilding.specs.Counted.{CountsFit, CountsGo}
use Rattle.slotted_data.specs.Meaning.{Meaning}
use Rattle.slotted_data.specs.Part.{Part}
pub use Rattle.slotted_data.specs.Counted.{IsWithinBound, heights_of, last_of, told_at, totals_with}
use Rattle.slotted_operations.specs.Graph.{Graph}
use Rattle.slotted_operations.specs.Image.{live_size}
use Rattle.slotted_graph.specs.Analysed.{KeepsPart, is_live_class}

abbrev pub IsWithinCounts : Graph → Type 0
IsWithinCounts g = CountsFit g.image.counts (live_size g.image)

pub record CountsUnion (g h : Graph) : Type 0 where
  pub goes : CountsGo g.image.counts h.image.counts
  pub nodes : h.image.counts.nodes ≤ length g.filed
  pub before : h.image.counts.size_before ≤ live_size g.image

abbrev pub HasNoHeights : {N D : Type 0} → (N → Meaning D) → Type 0
HasNoHeights {N} {D} meaning = (n : N) (x : D) → (meaning n).height x ≡ 0

-- the live classes, their slots, and the heights of their data
abbrev pub size_with_data : {N D : Type 0} → (N → Meaning D) → Graph → Part N D → ℕ
size_with_data meaning g p = live_size g.image + heights_of (is_live_class g.image) (meaning p.analysis) 0 p.values

-- what is told of it in a graph of this size; it took no more turns than its bound allows
pub record TellsRebuild {N D : Type 0} (codes : Coded N × Coded D) (meaning : N → Meaning D) (g : Graph) (c : RebuildCount) : Type 0 where
  pub part : Part N D
  pub keeps : KeepsPart codes g part
  pub told : c ≡ told_at (last_of g.image.counts part.counts) (size_with_data meaning g part)
  pub within : IsWithinBound c

-- all rebuilds took no more turns than their bounds allow, unless that sum is at its end
pub record TellsTotals {N D : Type 0} (codes : Coded N × Coded D) (g : Graph) (totals : ℕ × ℕ) : Type 0 where
  pub part : Part N D
  pub keeps : KeepsPart codes g part
  pub is : totals ≡ totals_with g.image.counts part.counts
  pub within : (totals.0 ≤ totals.1) ⊎ (most_bound ≤ totals.1)

-- unless that of bounds is at its end
pub record RiseWithin (t u : ℕ × ℕ) : Type 0 where
  pub turns : t.0 ≤ u.0
  pub bound : t.1 ≤ u.1
  pub rise : (u.0 - t.0 ≤ u.1 - t.1) ⊎ (most_bound ≤ u.1)
