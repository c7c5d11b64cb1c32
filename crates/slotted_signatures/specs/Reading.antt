-- The e-nodes of a pattern in the order in which they are read: from the left, each before what stands under it.
--     nodes_of p       the forms of the e-nodes of a pattern. Of a substitution first those of its body, then of its place and its value
--     nodes_in row     of patterns one after another
--     own_nodes p      of a pattern, without those that stand inside it
use Rattle.std.specs.Prelude.{List, [], ◌∷◌, ◌++◌}
use Rattle.slotted_nodes.specs.Form.{Form}
use Rattle.slotted_patterns.specs.Tree.{PatternTree, enode, pvar, substitution, PatternRow, no_more, one_more}

abbrev mutual
  pub nodes_of : PatternTree → List Form
  nodes_of (enode f row) = f ∷ nodes_in row
  nodes_of (pvar v) = []
  nodes_of (substitution b x t) = nodes_of b ++ (nodes_of x ++ nodes_of t)

  pub nodes_in : PatternRow → List Form
  nodes_in no_more = []
  nodes_in (one_more p rest) = nodes_of p ++ nodes_in rest

abbrev pub own_nodes : PatternTree → List Form
own_nodes (enode f row) = f ∷ []
own_nodes (pvar v) = []
own_nodes (substitution b x t) = []
