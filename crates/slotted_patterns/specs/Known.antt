-- Patterns whose nodes have known names.
use Rattle.std.specs.Prelude.{ℕ, List, [], ◌∷◌, IsTrue}
use Rattle.slotted_slots.specs.Table.{Table, is_known}
use Rattle.slotted_patterns.specs.Tree.{PatternTree, enode, pvar, substitution, PatternRow, no_more, one_more}

-- the table knows each of the slots
abbrev pub AreKnown : Table → List ℕ → Type 0
AreKnown t [] = Unit {0}
AreKnown t (x ∷ xs) = IsTrue (is_known t x) × AreKnown t xs

abbrev mutual
  -- the table knows each name of each node
  pub HasKnownNames : Table → PatternTree → Type 0
  HasKnownNames t (enode f row) = AreKnown t f.names × HaveKnownNames t row
  HasKnownNames t (pvar v) = Unit {0}
  HasKnownNames t (substitution b x v) = HasKnownNames t b × HasKnownNames t x × HasKnownNames t v

  pub HaveKnownNames : Table → PatternRow → Type 0
  HaveKnownNames t no_more = Unit {0}
  HaveKnownNames t (one_more p rest) = HasKnownNames t p × HaveKnownNames t rest
