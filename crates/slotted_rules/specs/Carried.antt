-- What calls do to what the analysis keeps.
--     CarriesIf P codes meaning g h    from g to h data only went down, and the analysis and the limit of rounds are the same.
--                                      If P, what was made or has changed waits to be modified
--     CarriesAlong codes meaning g h   the same without a premise
use Rattle.std.specs.Coded.{Coded}
use Rattle.slotted_data.specs.Meaning.{Meaning}
use Rattle.slotted_data.specs.Part.{NotesChanges, Part}
use Rattle.slotted_graph.specs.Analysed.{KeepsPart, LowersData}
use Rattle.slotted_graph.specs.Graph.{Graph}

pub record CarriesIf {N D : Type 0} (P : Type 0) (codes : Coded N × Coded D) (meaning : N → Meaning D) (g h : Graph) : Type 0 where
  pub lowers : LowersData codes meaning g h
  pub notes : P → (older newer : Part N D) → KeepsPart codes g older → KeepsPart codes h newer → D → NotesChanges older.values older.changed newer.values newer.changed

abbrev pub CarriesAlong : {N D : Type 0} → Coded N × Coded D → (N → Meaning D) → Graph → Graph → Type 0
CarriesAlong codes meaning g h = CarriesIf (Unit {0}) codes meaning g h
