-- What a pattern of a language is, where form says what its nodes are.
use Rattle.std.specs.Prelude.{string_bytes}
use Rattle.slotted_nodes.specs.Form.{Form}
use Rattle.slotted_patterns.specs.Tree.{PatternTree, enode, pvar, substitution, row_of}
use Rattle.slotted_patterns.specs.declared.pattern.Pattern.{Pattern, fold-Pattern}
use Rattle.slotted_patterns.specs.declared.pattern.Pattern.TheOpen.{Pattern-F}

-- one level, with each pattern inside already seen as its tree
abbrev pub tree_step : {L : Type 0} → (L → Form) → Pattern-F L PatternTree → PatternTree
tree_step form (Pattern-F.ENode node children) = enode (form node) (row_of children.items)
tree_step form (Pattern-F.PVar name) = pvar (string_bytes name)
tree_step form (Pattern-F.Subst body place value) = substitution body.value place.value value.value

abbrev pub tree_of : {L : Type 0} → (L → Form) → Pattern L → PatternTree
tree_of {L} form = fold-Pattern L PatternTree (tree_step form)
