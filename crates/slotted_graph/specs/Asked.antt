-- Where what rounds assert comes from.
--     IsLiveIn g c             c is a class that finds itself
--     IsAskedIn codes ask g c e    the analysis may ask the edit for the class, by the data and the slots that it has
--     IsAskedBetween ..        the pair was asserted for an edit that was asked so before, in a graph between, from which on data only went down
--     IsAskedBetweenWith given ..    the same, where the data of that graph comes from this, too, which was given for classes
use Rattle.std.specs.Prelude.{◌≡◌, ℕ, List, []}
use Rattle.std.specs.Coded.{Coded}
use Rattle.slotted_theory.specs.Nameless.{DTerm}
use Rattle.slotted_data.specs.declared.edit.Edit.{Edit}
use Rattle.slotted_data.specs.Meaning.{Meaning}
use Rattle.slotted_graph.specs.Analysed.{HasData, IsAnalysisOf, LowersData, LowersDataWith}
use Rattle.slotted_operations.specs.Causes.{class_found}
use Rattle.slotted_graph.specs.Extension.{IsBetween}
use Rattle.slotted_operations.specs.Graph.{Graph}
use Rattle.slotted_operations.specs.Reports.{HasClass, names_slots, slots_used}
use Rattle.slotted_graph.specs.Edited.{IsSaid}

abbrev pub IsLiveIn : Graph → ℕ → Type 0
IsLiveIn g c = HasClass g c × (class_found g.image c ≡ c)

-- what an analysis may ask, by the data and the slots of a class
abbrev pub Asks : Type 0 → Type 0 → Type 0 → Type 1
Asks L N D = N → D → List ℕ → Edit L → Type 0

pub record IsAskedIn {L N D : Type 0} (codes : Coded N × Coded D) (ask : Asks L N D) (g : Graph) (c : ℕ) (e : Edit L) : Type 0 where
  pub analysis : N
  pub datum : D
  pub keeps : IsAnalysisOf codes g analysis
  pub has : HasData codes g c datum
  pub asked : ask analysis datum (slots_used g.image c) e

-- the analysis and the data of the moment are those that the calls left: they come from those of g, and those of h come from them
pub record IsAskedBetweenWith {L N D : Type 0} (given : List (ℕ × D)) (codes : Coded N × Coded D) (meaning : N → Meaning D) (ask : Asks L N D)
    (g h : Graph) (pair : DTerm × DTerm) : Type 0 where
  pub moment : Graph
  pub between : IsBetween g h moment
  pub down : LowersDataWith given codes meaning g moment
  pub later : LowersData codes meaning moment h
  pub class : ℕ
  pub lives : IsLiveIn moment class
  pub edit : Edit L
  pub is_asked : IsAskedIn codes ask moment class edit
  pub says : IsSaid moment h (names_slots moment.image class) edit pair

abbrev pub IsAskedBetween : {L N D : Type 0} → Coded N × Coded D → (N → Meaning D) → Asks L N D → Graph → Graph → DTerm × DTerm → Type 0
IsAskedBetween codes meaning ask g h pair = IsAskedBetweenWith [] codes meaning ask g h pair
