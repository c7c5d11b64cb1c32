-- What tokens inside parts of a pattern that are still open read as. The parts stand innermost first.
use Rattle.std.specs.Prelude.{◌≡◌, List, [], ◌∷◌, Option}
use Rattle.slotted_slots.specs.Syntax.{Lexeme, Element}
use Rattle.slotted_nodes.specs.Form.{Form}
use Rattle.slotted_patterns.specs.Tree.{PatternTree}
use Rattle.slotted_patterns.specs.Outcome.{PatternOutcome, outside}
use Rattle.slotted_patterns.specs.Grammar.{Reading, found, fault, Bracket, after, node, ReadsPattern, ReadsBracket, ReadsOnAfter, ReadsSubstitutions, ReadsValue, ReadsClose}

-- a part of a pattern whose end was not read yet: a bracket, as what was read of it; `b[`; and `b[x :=`
pub data Part : Type 0 where
  in_bracket : (bracket : Bracket) → Part
  before_place : (body : PatternTree) → Part
  before_value : (body place : PatternTree) → Part

-- the innermost part is no bracket
abbrev pub IsOutside : List Part → Type 0
IsOutside (in_bracket b ∷ parts) = ⊥
IsOutside parts = Unit {0}

-- what a whole pattern that was read inside open parts makes of them all
abbrev pub Resumes : (List Element → Option Form) → List Part → Reading PatternTree → Reading PatternTree → Type 0
Resumes read [] p r = r ≡ p
Resumes read (in_bracket b ∷ parts) p r =
    (more : Reading Bracket) × ReadsOnAfter read p more × (q : Reading PatternTree) ×
    ReadsSubstitutions read (node read (after b more)) q × Resumes read parts q r
Resumes read (before_place b ∷ parts) p r = (q : Reading PatternTree) × ReadsValue read b p q × Resumes read parts q r
Resumes read (before_value b x ∷ parts) p r = (q : Reading PatternTree) × ReadsClose read b x p q × Resumes read parts q r

-- what a base that was read inside open parts makes of them all
abbrev pub Continues : (List Element → Option Form) → List Part → Reading PatternTree → Reading PatternTree → Type 0
Continues read parts b r = (p : Reading PatternTree) × ReadsSubstitutions read b p × Resumes read parts p r

-- what tokens inside open parts make of them all
abbrev pub ReadsOpen : (List Element → Option Form) → List Part → List Lexeme → Reading PatternTree → Type 0
ReadsOpen read (in_bracket b ∷ parts) ls r = (more : Reading Bracket) × ReadsBracket read ls more ×
    Continues read parts (node read (after b more)) r
ReadsOpen read parts ls r = (p : Reading PatternTree) × ReadsPattern read ls p × Resumes read parts p r

-- the outcome is the fault that was met
abbrev pub IsFault : {A : Type 0} → Reading A → PatternOutcome → Type 0
IsFault (found x rest) o = ⊥
IsFault (fault f) o = o ≡ outside f
