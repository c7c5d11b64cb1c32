-- What an example says is right of its own operator.
--     ExamplesAreRight       if the usage that an example shows is declared, the example's operator is used as declared
use Rattle.std.specs.Prelude.{◌≡◌, ℕ, List, Some, Contains}
use Rattle.slotted_nodes.specs.Form.{Form}
use Rattle.slotted_patterns.specs.Tree.{PatternRow, enode}
use Rattle.slotted_signatures.specs.Shown.{shown_by}
use Rattle.slotted_signatures.specs.Usage.{Usage}
use Rattle.slotted_signatures.specs.UsedAsDeclared.{IsUsedAsDeclared}

abbrev pub ExamplesAreRight : Type 0
ExamplesAreRight = (us : List Usage) (text : List ℕ) (f : Form) (row : PatternRow) (u : Usage)
    → shown_by text (enode f row) ≡ Some u → Contains us u → IsUsedAsDeclared us f
