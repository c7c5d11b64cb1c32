-- The first pattern inside a pattern of which something holds, and what is asked.
--     first_such holds t     each pattern comes after its parts, and these from the left
--     own_such holds t       the pattern itself, if it holds
--     is_miscounted t      a node that has more or fewer child patterns than children
--     is_substitution t    a substitution
--     is_named v t         the variable v
--     is_outside known t    a variable that is not known
--     name_in t             the name of a variable
use Rattle.std.specs.Prelude.{ℕ, List, [], ◌∷◌, length, reverse, Bool, true, false, not, ◌==◌, Option, Some, None}
use Rattle.std.specs.List.{find}
use Rattle.std.specs.Str.{bytes_eq}
use Rattle.slotted_nodes.specs.Form.{children}
use Rattle.slotted_patterns.specs.Subpatterns.{patterns_in, subpatterns}
use Rattle.slotted_patterns.specs.Tree.{PatternTree, enode, pvar, substitution}

abbrev pub first_such : (PatternTree → Bool) → PatternTree → Option PatternTree
first_such holds t = find holds (reverse (subpatterns t))

abbrev pub own_such : (PatternTree → Bool) → PatternTree → Option PatternTree
own_such holds t = find holds (t ∷ [])

abbrev pub is_miscounted : PatternTree → Bool
is_miscounted (enode f row) = not (length (patterns_in row) == length (children f.tree))
is_miscounted (pvar v) = false
is_miscounted (substitution b x t) = false

abbrev pub is_substitution : PatternTree → Bool
is_substitution (enode f row) = false
is_substitution (pvar v) = false
is_substitution (substitution b x t) = true

abbrev pub is_named : List ℕ → PatternTree → Bool
is_named name (enode f row) = false
is_named name (pvar v) = bytes_eq name v
is_named name (substitution b x t) = false

abbrev pub is_outside : (List ℕ → Bool) → PatternTree → Bool
is_outside known (enode f row) = false
is_outside known (pvar v) = not (known v)
is_outside known (substitution b x t) = false

abbrev pub name_in : PatternTree → Option (List ℕ)
name_in (enode f row) = None
name_in (pvar v) = Some v
name_in (substitution b x t) = None
