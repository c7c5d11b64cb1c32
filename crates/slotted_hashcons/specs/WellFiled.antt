-- What is kept with its filed nodes.
--     state_in k r       the state: what is kept, the rows of the filed nodes, and what waits
--     IsWellFiled k r        what holds between all inner steps of a rebuild
use Rattle.std.specs.Prelude.{◌≡◌, ◌<◌, ℕ, Some, length}
use Rattle.slotted_model.specs.Applied.{keys}
use Rattle.slotted_model.specs.Rest.{Sane}
use Rattle.slotted_model.specs.State.{State}
use Rattle.slotted_languages.specs.Shape.{Fits, shape}
use Rattle.slotted_classes.specs.Kept.{Kept, node_at, rows_from}
use Rattle.slotted_classes.specs.StateOf.{state_with}
use Rattle.slotted_classes.specs.Stored.{Stored}
use Rattle.slotted_hashcons.specs.Filed.{Filing, filed_of}
use Rattle.slotted_hashcons.specs.FoundNodes.{HasNoMorePlaces}
use Rattle.slotted_hashcons.specs.FiledRows.{Rows, rows_in}

abbrev pub state_in : Kept → Rows → State
state_in k r = state_with k (rows_in r.filed) r.waiting

-- the key is a shape, and the map has a slot for each of its numbers
pub record IsKeyed (e : Filing) : Type 0 where
  pub fits : Fits e.0
  pub itself : (shape e.0).0 ≡ e.0
  pub numbers : keys e.1 ≡ keys (shape e.0).1

-- the state is sane, classes by their canonical shapes stand in the order of their ids, and each filed key is a shape with no more places than
-- the node of its class
pub record IsWellFiled (k : Kept) (r : Rows) : Type 0 where
  pub stored : Stored k
  pub canonical : k.rows ≡ rows_from 0 k.classes
  pub fits : (i : ℕ) → i < length k.classes → Fits (node_at k i)
  pub count : length r.filed ≡ length k.classes
  pub sane : Sane (state_in k r)
  pub keyed : (i : ℕ) (e : Filing) → filed_of r.filed i ≡ Some e → IsKeyed e
  pub places : (i : ℕ) (e : Filing) → filed_of r.filed i ≡ Some e → HasNoMorePlaces k i e.0
