-- What a rebuild does to what is kept and its filed nodes.
--     UnitesFiled        a union by an entry, and the nodes over each class that changed wait
--     SettlesFiled       acts, and no turn, until each listed symmetry is aligned
use Rattle.std.specs.Prelude.{◌≡◌, ℕ, false}
use Rattle.slotted_model.specs.Changes.{Unites}
use Rattle.slotted_model.specs.Rebuild.{Runs}
use Rattle.slotted_classes.specs.Kept.{Kept}
use Rattle.slotted_hashcons.specs.FiledRows.{Rows, WaitsOn}
use Rattle.slotted_hashcons.specs.WellFiled.{state_in, IsWellFiled}
use Rattle.slotted_rebuilding.specs.Grows.{Grows}
use Rattle.slotted_rebuilding.specs.Uniting.{UnitesBy}

-- the union by the entry p leads from one to the other, and the nodes over each class that changed wait
pub record UnitesFiled (p : ℕ) (k : Kept) (r : Rows) (l : Kept) (q : Rows) : Type 0 where
  pub unites : Unites p (state_in k r) (state_in l q)
  -- the same where no node is filed
  pub by : UnitesBy p k l
  pub waits : WaitsOn r q

-- acts, and no turn, lead from one to the other, whose symmetries are all known to be aligned
pub record SettlesFiled (k : Kept) (r : Rows) (l : Kept) (q : Rows) : Type 0 where
  pub runs : Runs (state_in k r) 0 (state_in l q)
  pub filed : IsWellFiled l q
  pub settled : l.dropped ≡ false
  pub grows : Grows k l
  pub waits : WaitsOn r q
