-- Skeletons by number.
--     StandOnce S          no form stands twice
--     StandsAt S f n       the form f stands at the place n
--     IsPlaceOf S f n      n is the only place of the form f, or the length if f is nowhere
--     GrowsTo S T          the forms of S stand first in T
--     HasManyPlaces f      the node f has as many places and children as there are numeric slots, or more
--     HasFewPlaces f       it has fewer
use Rattle.std.specs.Prelude.{◌≡◌, ◌↔◌, ◌⊎◌, ◌≤◌, ◌<◌, ◌+◌, ℕ, List, ◌++◌, length, Some, slice_get}
use Rattle.slotted_slots.specs.Table.{slot_limit}
use Rattle.slotted_nodes.specs.Form.{Form, children}

abbrev pub StandOnce : List Form → Type 0
StandOnce S = (i j : ℕ) (f : Form) → slice_get S i ≡ Some f → slice_get S j ≡ Some f → i ≡ j

abbrev pub StandsAt : List Form → Form → ℕ → Type 0
StandsAt S f n = slice_get S n ≡ Some f

abbrev pub IsPlaceOf : List Form → Form → ℕ → Type 0
IsPlaceOf S f n = ((i : ℕ) → StandsAt S f i ↔ (i ≡ n)) ⊎ ((n ≡ length S) × ((i : ℕ) → ¬ StandsAt S f i))

abbrev pub GrowsTo : List Form → List Form → Type 0
GrowsTo S T = (more : List Form) × (T ≡ S ++ more)

abbrev pub HasManyPlaces : Form → Type 0
HasManyPlaces f = slot_limit ≤ length f.names + length (children f.tree)

abbrev pub HasFewPlaces : Form → Type 0
HasFewPlaces f = length f.names + length (children f.tree) < slot_limit
