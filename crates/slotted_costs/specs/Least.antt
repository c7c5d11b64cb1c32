-- What a made table is, in the model's words.
--     IsLeastTable g k table       each entry entered as the least that could, and none can any more
--     comes_first form order v r q  of two rows the one whose key is no greater
use Rattle.std.specs.Prelude.{◌≡◌, List, Option, true}
use Rattle.std.specs.Ordering.{is_le}
use Rattle.std.specs.declared.cmp.Ordering.{Ordering}
use Rattle.slotted_nodes.specs.Form.{Form}
use Rattle.slotted_model.specs.Cost.{CostFunction}
use Rattle.slotted_model.specs.State.{Row, State}
use Rattle.slotted_model.specs.Extraction.{TableEntry, IsLawfulFor, IsLeastFirst, IsFinished}
use Rattle.slotted_hashcons.specs.Filed.{Filing, HasKey}

-- each entry entered as the least that could, none can any more, and the costs are lawful on what is filed: so at rest the table fits
pub record IsLeastTable {C : Type 0} (g : State) (k : CostFunction C) (table : List (TableEntry C)) : Type 0 where
  pub least_first : IsLeastFirst g k table
  pub finished : IsFinished g k table
  pub lawful : IsLawfulFor C g k

-- by the order of the language what is filed of the source of r has a key that is no greater than that of what is filed of the source of q
abbrev pub comes_first : {L : Type 0} → (L → Form) → (L → L → Ordering) → List (Option Filing) → Row → Row → Type 0
comes_first {L} form order v r q = (a b : L) → HasKey v r.source (form a) → HasKey v q.source (form b) → is_le (order a b) ≡ true
