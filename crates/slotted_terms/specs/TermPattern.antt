-- The term that stands in a pattern, also where a node has too few or too many child patterns.
use Rattle.std.specs.Prelude.{◌≡◌, List, [], ◌∷◌}
use Rattle.slotted_theory.specs.Term.{Term, done}
use Rattle.slotted_languages.specs.Filled.{term_of}
use Rattle.slotted_patterns.specs.Tree.{PatternTree, enode, pvar, substitution, PatternRow, no_more, one_more}

-- what stands where there is no term
abbrev pub no_term : Term
no_term = record { op = 0; payloads = []; args = done }

abbrev mutual
  -- a node is that of a term over the terms of its child patterns
  pub term_in : PatternTree → Term
  term_in (enode f row) = term_of f (terms_in row)
  term_in (pvar v) = no_term
  term_in (substitution b x t) = no_term

  pub terms_in : PatternRow → List Term
  terms_in no_more = []
  terms_in (one_more p rest) = term_in p ∷ terms_in rest

abbrev mutual
  -- neither a variable nor a substitution stands in the pattern
  pub IsGround : PatternTree → Type 0
  IsGround (enode f row) = AreGround row
  IsGround (pvar v) = ⊥
  IsGround (substitution b x t) = ⊥

  pub AreGround : PatternRow → Type 0
  AreGround no_more = Unit {0}
  AreGround (one_more p rest) = IsGround p × AreGround rest

-- p is the pattern of the nodes of the term t
pub record IsPatternOf (p : PatternTree) (t : Term) : Type 0 where
  pub ground : IsGround p
  pub value : term_in p ≡ t

-- the same of patterns and terms one after another
pub record ArePatternsOf (row : PatternRow) (ts : List Term) : Type 0 where
  pub ground : AreGround row
  pub value : terms_in row ≡ ts
