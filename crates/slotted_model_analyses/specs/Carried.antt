-- Data that is carried along after a graph has come to rest, and not with each of its changes.
--     GoesAlong a g s h t   t is data of the graph h that absorbs what s had in the graph g, and what does not wait sees what it saw
--     CarriesTo a g s h t   from the data s, with which g rests, to data t, with which h rests
use Rattle.std.specs.Prelude.{◌≡◌, ◌⊎◌, ℕ, ◌<◌, length, Contains}
use Rattle.slotted_model.specs.Classes.{canonical_node}
use Rattle.slotted_model.specs.Correspondence.{AllDifferent}
use Rattle.slotted_model.specs.Find.{find_class}
use Rattle.slotted_model.specs.State.{Row, State, sources, child_classes}
use Rattle.slotted_model.specs.Extraction.{row_class}
use Rattle.slotted_model_analyses.specs.Analysis.{Analysis, Absorbs}
use Rattle.slotted_model_analyses.specs.DataPart.{DataPart, made, DataGoesDown, RestsWithData}
use Rattle.slotted_model_analyses.specs.DataWrites.{HasNotedAll}

-- what each class of g had is absorbed by what its class has in h; and at each row that does not wait either what its node makes is
-- absorbed, or its source is a class of g, and each of its children has the data that it had
pub record GoesAlong {D : Type 0} (a : Analysis D) (g : State) (s : DataPart D) (h : State) (t : DataPart D) : Type 0 where
  pub down : DataGoesDown a g s h t
  pub waits_once : AllDifferent t.pending
  pub waits_for_row : (o : ℕ) → Contains t.pending o → Contains (sources h.rows) o
  pub changed_once : AllDifferent t.changed
  pub changed_in_range : (i : ℕ) → Contains t.changed i → i < length h.nodes
  pub sees : (r : Row) → Contains h.rows r → ¬ Contains t.pending r.source →
      Absorbs a (t.data_of (row_class h r)) (made a t r.shape)
      ⊎ ((r.source < length g.nodes) × ((k : ℕ) → Contains (child_classes (canonical_node g.nodes r.source).args) k →
      t.data_of (find_class h.found k) ≡ s.data_of (find_class g.found k)))

-- data with which h rests, lower than the data s of g, where all that was made or has changed waits to be modified: whether it went
-- along with each step from g to h, or was brought to rest after them
pub record CarriesTo {D : Type 0} (a : Analysis D) (g : State) (s : DataPart D) (h : State) (t : DataPart D) : Type 0 where
  pub rests : RestsWithData a h t
  pub down : DataGoesDown a g s h t
  pub noted : HasNotedAll g s h t
