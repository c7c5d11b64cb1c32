-- The model's states of a graph.
--     IsStateOf g s     the state s has the graph's image and filed nodes, and is at rest
--     IsGraph g         some `EGraph` can be g: it has not failed, and has a state at rest
use Rattle.std.specs.Prelude.{◌≡◌, false}
use Rattle.slotted_model.specs.State.{State}
use Rattle.slotted_classes.specs.Kept.{Kept}
use Rattle.slotted_hashcons.specs.FiledRows.{Rows, rows_in}
use Rattle.slotted_hashcons.specs.WellFiled.{state_in}
use Rattle.slotted_operations.specs.Good.{Good, HasFreshSlots, RestsWith, image_of}
use Rattle.slotted_operations.specs.Graph.{Graph}

-- what is kept and what is filed of some graph with this image and these rows
pub record IsStateOf (g : Graph) (s : State) : Type 0 where
  pub kept : Kept
  pub rows : Rows
  pub good : Good kept
  pub rests : RestsWith kept rows
  pub fresh : HasFreshSlots g.table kept
  pub image : image_of kept ≡ g.image
  pub filed : rows_in rows.filed ≡ g.filed
  pub state : s ≡ state_in kept rows

pub record IsGraph (g : Graph) : Type 0 where
  pub well : g.failed ≡ false
  pub state : State
  pub is_state : IsStateOf g state
