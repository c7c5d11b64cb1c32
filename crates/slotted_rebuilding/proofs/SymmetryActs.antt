-- Acts on symmetries, until each is aligned, with the rows that wait.
use Rattle.std.proofs.Common.{◌≡◌, ◌<◌, ℕ, Some, false, length, ap, sym, subst}
use Rattle.slotted_model.specs.Changes.{Unites}
use Rattle.slotted_model.specs.Rebuild.{Acts, acts, Runs, starts, takes_act}
use Rattle.slotted_model.specs.Rest.{Sane}
use Rattle.slotted_languages.specs.Shape.{Fits}
use Rattle.slotted_classes.specs.Kept.{Kept, node_at, rows_from, with_settled}
use Rattle.slotted_hashcons.specs.Filed.{Filing, filed_of}
use Rattle.slotted_hashcons.specs.FiledRows.{Rows}
use Rattle.slotted_hashcons.specs.FoundNodes.{HasNoMorePlaces}
use Rattle.slotted_rebuilding.specs.Settling.{AreAligned, IsUnaligned}
use Rattle.slotted_rebuilding.proofs.EnteredProofs.{only-grows, nothing-proved}
use Rattle.slotted_rebuilding.proofs.KeptSlots.{grows-then}
use Rattle.slotted_rebuilding.proofs.SettlingSteps.{settled-grows, settled-stored, unaligned-within}
use Rattle.slotted_hashcons.specs.WellFiled.{state_in, IsWellFiled}
use Rattle.slotted_rebuilding.specs.Filed.{UnitesFiled, SettlesFiled}
use Rattle.slotted_rebuilding.proofs.FiledStates.{united-well, waits-nothing, waits-then}
use Rattle.slotted_rebuilding.proofs.Runs.{runs-join}

-- all are known to be aligned
pub settled-filed : (k : Kept) (r : Rows) → IsWellFiled k r → k.dropped ≡ false → SettlesFiled k r k r
settled-filed k r well settled = record {
  runs = starts;
  filed = well;
  settled = settled;
  grows = only-grows k k (nothing-proved k well.stored);
  waits = waits-nothing r;
}

-- all were found to be aligned
pub found-aligned : (k l : Kept) (r : Rows) → IsWellFiled k r → AreAligned k → l ≡ with_settled k → SettlesFiled k r l r
found-aligned k l r well aligned e = record {
  runs = subst (λ (z : Kept). Runs (state_in k r) 0 (state_in z r)) (sym e) starts;
  filed = record {
    stored = settled-stored k l well.stored aligned e;
    canonical = subst (λ (z : Kept). z.rows ≡ rows_from 0 z.classes) (sym e) well.canonical;
    fits = subst (λ (z : Kept). (i : ℕ) → i < length z.classes → Fits (node_at z i)) (sym e) well.fits;
    count = subst (λ (z : Kept). length r.filed ≡ length z.classes) (sym e) well.count;
    sane = subst (λ (z : Kept). Sane (state_in z r)) (sym e) well.sane;
    keyed = well.keyed;
    places = subst (λ (z : Kept). (i : ℕ) (c : Filing) → filed_of r.filed i ≡ Some c → HasNoMorePlaces z i c.0) (sym e) well.places;
  };
  settled = ap (λ (z : Kept). z.dropped) e;
  grows = settled-grows k l e;
  waits = waits-nothing r;
}

-- one was acted on, and then the others
module _ (k : Kept) (r : Rows) (well : IsWellFiled k r) (p : ℕ) (u : IsUnaligned k p) (l : Kept) (q : Rows) (by : UnitesFiled p k r l q) where
  act : Acts (state_in k r) (state_in l q)
  act = acts u.symmetry u.listed u.unaligned (subst (λ n. Unites n (state_in k r) (state_in l q)) (sym u.proof) by.unites)

  pub acted-well : IsWellFiled l q
  acted-well = united-well p k r l q well (unaligned-within k well.stored p u) by

  pub acted-then : (n : Kept) (s : Rows) → SettlesFiled l q n s → SettlesFiled k r n s
  acted-then n s then = record {
    runs = runs-join (state_in k r) (state_in l q) (state_in n s) 0 0 (takes_act starts act) then.runs;
    filed = then.filed;
    settled = then.settled;
    grows = grows-then k l n by.by.grows then.grows;
    waits = waits-then r q s by.waits then.waits;
  }
