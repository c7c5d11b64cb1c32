-- What is known of a graph in which a condition was asked.
--     AnswersBetween codes meaning holds g h s m y    the answer for s in m is y, and m is a graph between g and h: from g to m and from m to h data only
--                                                     went down
use Rattle.std.specs.Prelude.{Bool}
use Rattle.std.specs.Coded.{Coded}
use Rattle.slotted_data.specs.Meaning.{Meaning}
use Rattle.slotted_model_rules.specs.Conditions.{Values}
use Rattle.slotted_graph.specs.Analysed.{LowersData}
use Rattle.slotted_graph.specs.Extension.{IsBetween}
use Rattle.slotted_graph.specs.Graph.{Graph}

pub record AnswersBetween {N D : Type 0} (codes : Coded N × Coded D) (meaning : N → Meaning D) (holds : Values → Graph → Bool → Type 0) (g h : Graph) (s : Values) (m : Graph) (y : Bool) : Type 0 where
  pub answer : holds s m y
  pub between : IsBetween g h m
  pub down : LowersData codes meaning g m
  pub later : LowersData codes meaning m h
