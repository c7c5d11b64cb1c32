-- What calls that add and unite leave of the graph before: it is extended.
--     Begins xs ys         the list xs is a beginning of ys
--     ExtendsTo g h        h extends g: what was known, valid, equal, proved and asserted still is
--     IsBetween g h m      m is a graph that extends g, and that h extends
use Rattle.std.specs.Prelude.{◌≡◌, List, ◌++◌}
use Rattle.slotted_slots.specs.Table.{KnowsMore}
use Rattle.slotted_model.specs.Applied.{Applied}
use Rattle.slotted_model.specs.Growth.{Extends}
use Rattle.slotted_operations.specs.Graph.{Graph}
use Rattle.slotted_operations.specs.Image.{FoundAlike, asserted_in}
use Rattle.slotted_operations.specs.ValidIds.{IsValidId}
use Rattle.slotted_rebuilding.specs.Counted.{CountsGo}
use Rattle.slotted_graph.specs.States.{IsGraph}

abbrev pub Begins : {A : Type 0} → List A → List A → Type 0
Begins {A} xs ys = (more : List A) × (ys ≡ xs ++ more)

-- known slots and canonical nodes stay, and so does what is valid and what finds alike; the proof list, what is asserted, and the listed symmetries
-- grow at their ends; the totals over all rebuilds rise, that of turns by no more than that of bounds
pub record ExtendsTo (g h : Graph) : Type 0 where
  pub more : KnowsMore g.table h.table
  pub canonical : Extends g.image.canonical h.image.canonical
  pub valid : (a : Applied) → IsValidId g a → IsValidId h a
  pub alike : (a b : Applied) → IsValidId g a → IsValidId g b → FoundAlike g.image a b → FoundAlike h.image a b
  pub entries : Begins g.image.entries h.image.entries
  pub stored : Begins g.image.stored h.image.stored
  pub asserted : Begins (asserted_in g.image) (asserted_in h.image)
  pub symmetries : Begins g.image.symmetries h.image.symmetries
  pub counts : CountsGo g.image.counts h.image.counts

pub record IsBetween (g h m : Graph) : Type 0 where
  pub graph : IsGraph m
  pub after : ExtendsTo g m
  pub before : ExtendsTo m h
