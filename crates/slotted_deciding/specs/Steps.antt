-- What deciding leaves of a graph at each step.
--     GoesTo g h      from g to h nothing was asserted, and what was there stays
--     LeadsTo codes meaning g h     so it is, and data of the analysis only went down
--     CanRefuse e     a refusal: memory or slots ran out, or a step did not fit
use Rattle.std.specs.Prelude.{◌≡◌, ◌⊎◌}
use Rattle.std.specs.Coded.{Coded}
use Rattle.slotted_slots.specs.Error.{IsShortage}
use Rattle.slotted_slots.specs.declared.error.Error.{Error}
use Rattle.slotted_operations.specs.Graph.{Graph}
use Rattle.slotted_operations.specs.Image.{asserted_in}
use Rattle.slotted_data.specs.Meaning.{Meaning}
use Rattle.slotted_graph.specs.Analysed.{LowersData}
use Rattle.slotted_graph.specs.Extension.{ExtendsTo}
use Rattle.slotted_graph.specs.States.{IsGraph}

abbrev pub CanRefuse : Error → Type 0
CanRefuse e = (e ≡ Error.BadStep) ⊎ (e ≡ Error.NotEqual) ⊎ IsShortage e

pub record GoesTo (g h : Graph) : Type 0 where
  pub graph : IsGraph h
  pub extends : ExtendsTo g h
  pub asserted : asserted_in h.image ≡ asserted_in g.image

pub record LeadsTo {N D : Type 0} (codes : Coded N × Coded D) (meaning : N → Meaning D) (g h : Graph) : Type 0 where
  pub graph : IsGraph h
  pub extends : ExtendsTo g h
  pub asserted : asserted_in h.image ≡ asserted_in g.image
  pub lowers : LowersData codes meaning g h
