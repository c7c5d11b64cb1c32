-- A pattern as contracts see it: nodes are their forms, and names of variables their bytes.
use Rattle.std.specs.Prelude.{ℕ, List, [], ◌∷◌}
use Rattle.slotted_nodes.specs.Form.{Form}

mutual
  -- a node over child patterns; a variable; the pattern body with value put in the place of place
  pub data PatternTree : Type 0 where
    enode : (form : Form) (children : PatternRow) → PatternTree
    pvar : (name : List ℕ) → PatternTree
    substitution : (body place value : PatternTree) → PatternTree

  -- patterns, one after another
  pub data PatternRow : Type 0 where
    no_more : PatternRow
    one_more : (pattern : PatternTree) (rest : PatternRow) → PatternRow

abbrev pub row_of : List PatternTree → PatternRow
row_of [] = no_more
row_of (p ∷ ps) = one_more p (row_of ps)
