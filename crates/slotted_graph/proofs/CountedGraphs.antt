-- What rebuilds noted of what is kept, as contracts see it.
use Rattle.std.proofs.Common.{◌≡◌, ◌≤◌, ◌+◌, ◌∙◌, ap, length, subst, sym, true, false, refl, arith, inl, inr}
use Rattle.std.specs.Prelude.{◌⊎◌, Bool, List, Option, ℕ}
use Rattle.std.specs.Coded.{Coded}
use Rattle.std.proofs.lemmas.Bool.{cases_lt}
use Rattle.slotted_model.specs.Applied.{Applied}
use Rattle.slotted_model.specs.State.{Row}
use Rattle.slotted_classes.specs.Counts.{Counts, most_bound}
use Rattle.slotted_classes.specs.Kept.{Kept, size_of}
use Rattle.slotted_classes.specs.declared.counts.RebuildCount.{RebuildCount}
use Rattle.slotted_hashcons.specs.FiledRows.{Rows, rows_in}
use Rattle.slotted_rebuilding.specs.Counted.{CountsFit, CountsGo, TotalsFit}
use Rattle.slotted_data.specs.Meaning.{Meaning, by_bare_nodes}
use Rattle.slotted_data.specs.Held.{DataCounts, Held}
use Rattle.slotted_data.specs.Made.{HasHeights}
use Rattle.slotted_data.specs.Carrying.{AreCounted, DataRests}
use Rattle.slotted_data.specs.Part.{Part, part_by, part_code, part_in}
use Rattle.slotted_data.specs.Pending.{lives_in}
use Rattle.slotted_operations.specs.Good.{Good, RestsWith, Unites, image_of}
use Rattle.slotted_operations.specs.Graph.{Graph}
use Rattle.slotted_operations.specs.Image.{Image, live_size}
use Rattle.slotted_operations.proofs.Graphs.Notes.{size-seen}
use Rattle.slotted_graph.specs.Analysed.{LowersDataWith, is_live_class}
use Rattle.slotted_graph.specs.Extension.{ExtendsTo}
use Rattle.slotted_graph.specs.Counted.{CountsUnion, HasNoHeights, IsWithinBound, IsWithinCounts, RiseWithin, TellsRebuild, TellsTotals, heights_of, last_of, size_with_data, told_at, totals_with}
use Rattle.slotted_graph.proofs.Analysed.{lives-is}

pub is-within : (k : Kept) (r : Rows) → Good k → RestsWith k r → (g : Graph) → image_of k ≡ g.image → IsWithinCounts g
is-within k r good rests g image = subst (λ (i : Image). CountsFit i.counts (live_size i)) image (subst (CountsFit k.counts) (sym (size-seen k good.stored)) rests.noted)

pub counts-union : (k : Kept) (r : Rows) (l : Kept) (q : Rows) (a b : Applied) (text : Option (List ℕ)) (y : Bool) → Good k → Unites k r l q a b text y →
    (g h : Graph) → image_of k ≡ g.image → rows_in r.filed ≡ g.filed → image_of l ≡ h.image → CountsUnion g h
counts-union k r l q a b text y good u g h image filed image_h = record {
  goes = subst (λ (i : Image). CountsGo g.image.counts i.counts) image_h (subst (λ (i : Image). CountsGo i.counts l.counts) image u.union.counts);
  nodes = subst (λ (rows : List Row). h.image.counts.nodes ≤ length rows) filed (subst (λ (i : Image). i.counts.nodes ≤ length (rows_in r.filed)) image_h u.last.nodes);
  before = subst (λ (i : Image). h.image.counts.size_before ≤ live_size i) image
      (subst (λ n. h.image.counts.size_before ≤ n) (sym (size-seen k good.stored)) (subst (λ (i : Image). i.counts.size_before ≤ size_of k) image_h u.last.before));
}

-- a graph at rest with its data has noted what fits
pub are-counted : {D : Type 0} (meaning : Meaning D) (k : Kept) (r : Rows) (d : Held D) → RestsWith k r → DataRests (by_bare_nodes meaning) k r d → AreCounted meaning k d
are-counted meaning k r d rests held = record { count = held.count; rebuilds = rests.noted; turns = held.counts; still = held.still; low = λ short. (held.low short).1 }

-- and its data is low if there is no other
pub low-data : {N D : Type 0} (meaning : N → Meaning D) (n : N) (k : Kept) (r : Rows) (d : Held D) → HasNoHeights meaning → DataRests (by_bare_nodes (meaning n)) k r d → d.tall ≡ false
low-data meaning n k r d none held = low d.tall held.high
  where
    low : (b : Bool) → (b ≡ true → HasHeights (by_bare_nodes (meaning n))) → b ≡ false
    low true high = let h = high refl in let z = none n h.0 in let l = h.1 in absurd (omega (arith, z, l))
    low false high = refl

module _ {N D : Type 0} (codes : Coded N × Coded D) (meaning : N → Meaning D) (n : N) (m : ℕ) (k : Kept) (r : Rows) (d : Held D) (g : Graph) (good : Good k)
    (image : image_of k ≡ g.image) (part : g.part ≡ part_by codes n m d) where
  pub size-is : size_of k + heights_of (lives_in k) (meaning n) 0 d.values ≡ size_with_data meaning g (part_in n m d)
  size-is = (λ i. sym (size-seen k good.stored) i + heights_of (λ j. lives-is k good j i) (meaning n) 0 d.values)
      ∙ ap (λ (x : Image). live_size x + heights_of (is_live_class x) (meaning n) 0 d.values) image

  pub tells-rebuild : (c : RebuildCount) → c ≡ told_at (last_of k.counts d.counts) (size_of k + heights_of (lives_in k) (meaning n) 0 d.values) → IsWithinBound c → TellsRebuild codes meaning g c
  tells-rebuild c is within = record {
    part = part_in n m d;
    keeps = part;
    told = is ∙ (λ i. told_at (last_of (image i).counts d.counts) (size-is i));
    within = within;
  }

  pub tells-totals : (t : ℕ × ℕ) → RestsWith k r → DataRests (by_bare_nodes (meaning n)) k r d → t ≡ totals_with k.counts d.counts → TellsTotals codes g t
  tells-totals t rests held is = record {
    part = part_in n m d;
    keeps = part;
    is = is ∙ ap (λ (x : Image). totals_with x.counts d.counts) image;
    within = subst (λ (u : ℕ × ℕ). (u.0 ≤ u.1) ⊎ (most_bound ≤ u.1)) (sym is) (sums-within rests.noted.totals held.counts.totals);
  }
    where
      sums-within : TotalsFit k.counts → TotalsFit d.counts.own → ((totals_with k.counts d.counts).0 ≤ (totals_with k.counts d.counts).1) ⊎ (most_bound ≤ (totals_with k.counts d.counts).1)
      sums-within a b = elim a.total [
        | inr over ↦ inr (omega (arith, over))
        | inl x ↦ elim b.total [
          | inr over ↦ inr (omega (arith, over))
          | inl y ↦ inl (omega (arith, x, y))
        ]
      ]

-- both kinds of totals rise within their bounds, so their sums do
sums-rise : (c d : Counts) (s t : DataCounts) → CountsGo c d → CountsGo s.own t.own → RiseWithin (totals_with c s) (totals_with d t)
sums-rise c d s t a b =
    let turns = a.turns in
    let bound = a.bound in
    let more_turns = b.turns in
    let more_bound = b.bound in
    record {
      turns = omega (arith, turns, more_turns);
      bound = omega (arith, bound, more_bound);
      rise = elim a.rise [
        | inr over ↦ inr (omega (arith, over))
        | inl x ↦ elim b.rise [
          | inr over ↦ inr (omega (arith, over))
          | inl y ↦ elim (cases_lt (d.total_bound + t.own.total_bound) most_bound) [
            | inl below ↦ inl (omega (arith, x, y, below, turns, bound, more_turns, more_bound))
            | inr over ↦ inr (omega (arith, over))
          ]
        ]
      ];
    }

pub totals-rise : {N D : Type 0} (codes : Coded N × Coded D) (meaning : N → Meaning D) (given : List (ℕ × D)) (g h : Graph) (t u : ℕ × ℕ) → ExtendsTo g h → LowersDataWith given codes meaning g h →
    TellsTotals codes g t → TellsTotals codes h u → RiseWithin t u
totals-rise {N} {D} codes meaning given g h t u extends lowers before after =
    let low = lowers before.part before.keeps in
    let same : low.newer ≡ after.part = (part_code codes).inj low.newer after.part (sym low.after ∙ after.keeps) in
    let goes : CountsGo before.part.counts.own after.part.counts.own = subst (λ (p : Part N D). CountsGo before.part.counts.own p.counts.own) same low.counts in
    subst (λ (x : ℕ × ℕ). RiseWithin x u) (sym before.is) (subst (RiseWithin (totals_with g.image.counts before.part.counts)) (sym after.is)
    (sums-rise g.image.counts h.image.counts before.part.counts after.part.counts extends.counts goes))
