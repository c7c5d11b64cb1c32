-- How far a graph is.
--     slots_of_live g    how many slots the live classes have left, together
--     IsProgress g m     the measure m counts the classes, those that find themselves, and their slots
--     no_progress        the measure that counts nothing
--     NeverRises g h     from g to h no class is made, and no count rises
use Rattle.std.specs.Prelude.{◌≡◌, ◌≤◌, ℕ, length}
use Rattle.std.specs.List.{sum_by}
use Rattle.slotted_nodes.specs.Form.{counted}
use Rattle.slotted_reports.specs.declared.measure.ProgressMeasure.{ProgressMeasure}
use Rattle.slotted_operations.specs.ValidIds.{slots_left}
use Rattle.slotted_operations.specs.Image.{Image}
use Rattle.slotted_operations.specs.Reports.{live_classes}

abbrev pub slots_of_live : Image → ℕ
slots_of_live g = sum_by (λ c. length (slots_left g c)) (live_classes g)

-- the sum ends at the largest number that there is
pub record IsProgress (g : Image) (m : ProgressMeasure) : Type 0 where
  pub classes : m.number_of_classes ≡ length g.canonical
  pub live : m.number_of_live_classes ≡ length (live_classes g)
  pub slots : m.sum_of_slots ≡ counted (slots_of_live g)
  pub symmetries : m.sum_of_symmetries ≡ length (live_classes g)

abbrev pub no_progress : ProgressMeasure
no_progress = record { number_of_classes = 0; number_of_live_classes = 0; sum_of_slots = 0; sum_of_symmetries = 0 }

-- there are as many classes, no more live ones, and where as many live, no more slots of them
pub record NeverRises (g h : Image) : Type 0 where
  pub classes : length h.canonical ≡ length g.canonical
  pub live : length (live_classes h) ≤ length (live_classes g)
  pub slots : length (live_classes h) ≡ length (live_classes g) → slots_of_live h ≤ slots_of_live g
