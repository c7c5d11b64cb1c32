-- How far a pattern is read, as contracts of the reader see it.
use Rattle.std.specs.Prelude.{◌≡◌, ℕ, ◌<◌, ◌+◌, ◌*◌, List, ◌∷◌, Option, map, reverse}
use Rattle.slotted_slots.specs.Syntax.{Lexeme, Element, Fault, element_of}
use Rattle.slotted_nodes.specs.Form.{Form}
use Rattle.slotted_patterns.specs.Tree.{PatternTree}
use Rattle.slotted_patterns.specs.View.{tree_of}
use Rattle.slotted_patterns.specs.Outcome.{PatternOutcome, outside}
use Rattle.slotted_patterns.specs.Grammar.{Reading, found, fault, Bracket, ReadsPattern}
use Rattle.slotted_patterns.specs.Stack as stack
use Rattle.slotted_patterns.specs.Stack.{Resumes, Continues, ReadsOpen}
use Rattle.slotted_patterns.specs.declared.pattern.Pattern.{Pattern}
use Rattle.slotted_patterns.specs.declared.grammar.Open.{Open}
use Rattle.slotted_patterns.specs.declared.grammar.Part.{Part}
use Rattle.slotted_patterns.specs.declared.grammar.Part.TheVariants.{Node, Place, Value}
use Rattle.slotted_patterns.specs.declared.grammar.Point.{Point}
use Rattle.slotted_patterns.specs.declared.grammar.Point.TheVariants.{Due, Base, Whole}

module _ {L : Type 0} (form : L → Form) where
  -- what was read of a bracket
  abbrev pub bracket_of : Open L → Bracket
  bracket_of b = record { elements = map element_of b.elements.items; children = map (tree_of form) b.children.items }

  -- a part that is open
  abbrev pub part_of : Part L → stack.Part
  part_of (Node b) = stack.in_bracket (bracket_of b)
  part_of (Place body) = stack.before_place (tree_of form body.value)
  part_of (Value body place) = stack.before_value (tree_of form body.value) (tree_of form place.value)

  -- the parts of a stack, innermost first
  abbrev pub parts_of : List (Part L) → List stack.Part
  parts_of parts = map part_of (reverse parts)

  -- what tokens read as from a point of the reading: a base is due, a base was read, or the whole was
  abbrev pub ReadsFrom : (List Element → Option Form) → List (Part L) → Point L → List Lexeme → Reading PatternTree → Type 0
  ReadsFrom read parts Due ls r = ReadsOpen read (parts_of parts) ls r
  ReadsFrom read parts (Base b) ls r = Continues read (parts_of parts) (found (tree_of form b) ls) r
  ReadsFrom read parts (Whole p) ls r = r ≡ found (tree_of form p) ls

  -- whatever is read from the second point is read from the first
  abbrev pub ReadsAs : (List Element → Option Form) → List (Part L) → Point L → List Lexeme → List (Part L) → Point L → List Lexeme → Type 0
  ReadsAs read parts at ls parts' at' ls' = (r : Reading PatternTree) → ReadsFrom read parts' at' ls' r → ReadsFrom read parts at ls r

  -- the outcome is the fault that is read from a point
  abbrev pub IsFaultFrom : (List Element → Option Form) → List (Part L) → Point L → List Lexeme → PatternOutcome → Type 0
  IsFaultFrom read parts at ls o = (f : Fault) × (o ≡ outside f) × ReadsFrom read parts at ls (fault f)

  -- whatever is read from the second point is read after this pattern, inside this part and those of the stack
  abbrev pub ResumesAs : (List Element → Option Form) → List (Part L) → Part L → Pattern L → List Lexeme → List (Part L) →
      Point L → List Lexeme → Type 0
  ResumesAs read parts part p ls parts' at' ls' =
      (r : Reading PatternTree) → ReadsFrom read parts' at' ls' r →
      Resumes read (part_of part ∷ parts_of parts) (found (tree_of form p) ls) r

  -- the outcome is the fault that is read after this pattern, inside this part and those of the stack
  abbrev pub IsFaultAfter : (List Element → Option Form) → List (Part L) → Part L → Pattern L → List Lexeme → PatternOutcome → Type 0
  IsFaultAfter read parts part p ls o = (f : Fault) × (o ≡ outside f) ×
      Resumes read (part_of part ∷ parts_of parts) (found (tree_of form p) ls) (fault f)

-- the outcome is the fault of a pattern at the front of the tokens
abbrev pub IsFaultOf : (List Element → Option Form) → List Lexeme → PatternOutcome → Type 0
IsFaultOf read ls o = (f : Fault) × (o ≡ outside f) × ReadsPattern read ls (fault f)

-- a base in hand is one step of the reader
abbrev pub weight : {L : Type 0} → Point L → ℕ
weight Due = 0
weight (Base b) = 1
weight (Whole p) = 0

-- a base with tokens after it was read on: fewer tokens are left, or as many and no base
abbrev pub IsLess : {L : Type 0} → Point L → ℕ → ℕ → Type 0
IsLess at n m = weight at + 2 * n < 1 + 2 * m
