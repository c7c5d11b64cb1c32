-- A pattern of a language as the pattern of rules that it is.
--     filled_pattern u xs ps   the arguments of the tree u with the names xs at its places and the patterns ps in the places of its children
--     pattern_over f ps        the node f over these child patterns, if they are as many as its children
--     pattern_in t             the pattern that t is, if each node has the right number of child patterns
use Rattle.std.specs.Prelude.{ℕ, suc, List, [], ◌∷◌, take, drop, length, slice_index, ◌==◌, if◌then◌else◌, Option, Some, None, option_and_then}
use Rattle.slotted_nodes.specs.Form.{Form, Tree, leaf, own, child, bind, scopes, children}
use Rattle.slotted_patterns.specs.Tree.{PatternTree, enode, pvar, substitution, PatternRow, no_more, one_more}
use Rattle.slotted_model.specs.LookUp.{both}
use Rattle.slotted_model_rules.specs.Patterns.{Pattern, PatternArgs, pattern_node, variable, replacing, no_argument, own_name, child_pattern, binding}

-- names and patterns are both taken from the left; an id is passed over with all of its names
abbrev pub filled_pattern : Tree → List ℕ → List Pattern → PatternArgs
filled_pattern leaf xs ps = no_argument
filled_pattern (own r) xs ps = own_name (slice_index xs 0) (filled_pattern r (drop 1 xs) ps)
filled_pattern (child i ks r) xs [] = no_argument
filled_pattern (child i ks r) xs (p ∷ ps) = child_pattern p (filled_pattern r (drop (length ks) xs) ps)
filled_pattern (bind u r) xs ps =
    binding (slice_index xs 0) (filled_pattern u (take (length (scopes u)) (drop 1 xs)) (take (length (children u)) ps))
    (filled_pattern r (drop (length (scopes u)) (drop 1 xs)) (drop (length (children u)) ps))

-- the operators of patterns are those of terms: one more than those of nodes
abbrev pub pattern_over : Form → List Pattern → Option Pattern
pattern_over f ps =
    if length ps == length (children f.tree)
    then Some (pattern_node (suc f.operator) f.payloads (filled_pattern f.tree f.names ps))
    else None

abbrev mutual
  pub pattern_in : PatternTree → Option Pattern
  pattern_in (enode f row) = option_and_then (pattern_over f) (patterns_in row)
  pattern_in (pvar v) = Some (variable v)
  pattern_in (substitution b x t) = option_and_then (λ body. both (λ part value. replacing body part value) (pattern_in x) (pattern_in t)) (pattern_in b)

  pub patterns_in : PatternRow → Option (List Pattern)
  patterns_in no_more = Some []
  patterns_in (one_more p rest) = both (λ q qs. q ∷ qs) (pattern_in p) (patterns_in rest)
