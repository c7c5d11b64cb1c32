-- A pattern as the list of the patterns in it: each stands before its parts, which follow from the right.
--     parts p          the patterns right inside a pattern
--     subpatterns p    the pattern, and those inside it at any depth
use Rattle.std.specs.Prelude.{◌≡◌, ◌-◌, List, [], ◌∷◌, ◌++◌, length, take}
use Rattle.slotted_patterns.specs.Tree.{PatternTree, enode, pvar, substitution, PatternRow, no_more, one_more}

abbrev pub patterns_in : PatternRow → List PatternTree
patterns_in no_more = []
patterns_in (one_more p rest) = p ∷ patterns_in rest

abbrev pub parts : PatternTree → List PatternTree
parts (enode f row) = patterns_in row
parts (pvar v) = []
parts (substitution b x t) = b ∷ x ∷ t ∷ []

abbrev mutual
  pub subpatterns : PatternTree → List PatternTree
  subpatterns (enode f row) = enode f row ∷ subpatterns_in row
  subpatterns (pvar v) = pvar v ∷ []
  subpatterns (substitution b x t) = substitution b x t ∷ (subpatterns t ++ (subpatterns x ++ subpatterns b))

  pub subpatterns_in : PatternRow → List PatternTree
  subpatterns_in no_more = []
  subpatterns_in (one_more p rest) = subpatterns_in rest ++ subpatterns p

-- what stands before the last of a list, which are as many as the parts of the pattern
abbrev pub before_parts : PatternTree → List PatternTree → List PatternTree
before_parts p ps = take (length ps - length (parts p)) ps

-- the last of the list are the parts of the pattern
abbrev pub EndsInParts : PatternTree → List PatternTree → Type 0
EndsInParts p ps = ps ≡ before_parts p ps ++ parts p

-- the pattern is a node
abbrev pub IsNode : PatternTree → Type 0
IsNode (enode f row) = Unit {0}
IsNode (pvar v) = ⊥
IsNode (substitution b x t) = ⊥

abbrev pub IsSubstitution : PatternTree → Type 0
IsSubstitution (enode f row) = ⊥
IsSubstitution (pvar v) = ⊥
IsSubstitution (substitution b x t) = Unit {0}
