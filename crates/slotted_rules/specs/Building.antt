-- What calls that build leave of the graph before.
--     Grows g h             h is a graph that has not failed, and extends g
--     AssertsNothing g h    no equation is asserted from g to h
--     Builds g h            both
use Rattle.std.specs.Prelude.{◌≡◌}
use Rattle.slotted_graph.specs.Graph.{Graph}
use Rattle.slotted_graph.specs.Image.{asserted_in}
use Rattle.slotted_graph.specs.States.{IsGraph}
use Rattle.slotted_graph.specs.Extension.{ExtendsTo}

pub record Grows (g h : Graph) : Type 0 where
  pub graph : IsGraph h
  pub extends : ExtendsTo g h

abbrev pub AssertsNothing : Graph → Graph → Type 0
AssertsNothing g h = asserted_in h.image ≡ asserted_in g.image

pub record Builds (g h : Graph) : Type 0 where
  pub grows : Grows g h
  pub asserts : AssertsNothing g h
