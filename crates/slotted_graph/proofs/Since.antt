-- Data that was at rest, and what each write has done since: so it can be carried along.
use Rattle.std.proofs.Common.{◌≡◌, length, sym, ◌∙◌, ap}
use Rattle.slotted_model.specs.Changes.{GoesOn}
use Rattle.slotted_model_analyses.specs.Analysis.{Analysis}
use Rattle.slotted_classes.specs.Kept.{Kept}
use Rattle.slotted_hashcons.specs.FiledRows.{Rows}
use Rattle.slotted_hashcons.specs.WellFiled.{state_in}
use Rattle.slotted_data.specs.Held.{Held}
use Rattle.slotted_data.specs.Carrying.{DataRests, HasCarriedAll, RestedBefore}
use Rattle.slotted_data.proofs.Resting.{rested-before}
use Rattle.slotted_operations.specs.Good.{KeepsNotes}

module _ {D : Type 0} (a : Analysis D) (k : Kept) (r : Rows) (d : Held D) (rests : DataRests a k r d) where
  pub rested-since : (l : Kept) (q : Rows) → GoesOn (state_in k r) (state_in l q) → KeepsNotes k l → RestedBefore a k r l q d
  rested-since l q goes notes = rested-before a k r l q d notes.gone rests goes notes.deaths

  -- all data had been carried, so it still has where what is kept is the same
  pub carried-all : HasCarriedAll k d
  carried-all = (rests.count, rests.carried)

  pub carried-same : (l : Kept) → l ≡ k → HasCarriedAll l d
  carried-same l same = (rests.count ∙ ap (λ (z : Kept). length z.classes) (sym same), rests.carried ∙ ap (λ (z : Kept). length z.deaths) (sym same))
