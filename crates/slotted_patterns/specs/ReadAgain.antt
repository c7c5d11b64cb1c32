-- What a pattern prints reads as that pattern: the law, and which languages it is for.
use Rattle.std.specs.Prelude.{◌≡◌, ℕ, List, [], ◌∷◌, Option, ⊤}
use Rattle.std.specs.Str.{chars, IsUtf8}
use Rattle.slotted_slots.specs.Maps.{keys}
use Rattle.slotted_slots.specs.Syntax.{Element, text, applied, name}
use Rattle.slotted_slots.specs.Table.{Table, IsTable}
use Rattle.slotted_nodes.specs.Form.{Form, children}
use Rattle.slotted_nodes.specs.ReadFrom.{slots_of}
use Rattle.slotted_patterns.specs.Outcome.{parsed}
use Rattle.slotted_patterns.specs.Parsed.{PatternReads}
use Rattle.slotted_patterns.specs.Shown.{pattern_text}
use Rattle.slotted_patterns.specs.View.{tree_of}
use Rattle.slotted_patterns.specs.declared.pattern.Pattern.{Pattern}

-- each applied id among the elements, as its id and the keys of its map
abbrev pub applied_ids : List Element → List (ℕ × List ℕ)
applied_ids [] = []
applied_ids (text bs ∷ es) = applied_ids es
applied_ids (applied i m ∷ es) = (i, keys m) ∷ applied_ids es
applied_ids (name x ∷ es) = applied_ids es

-- slots and applied ids alone
abbrev pub HasNoText : List Element → Type 0
HasNoText [] = ⊤
HasNoText (text bs ∷ es) = ⊥
HasNoText (applied i m ∷ es) = HasNoText es
HasNoText (name x ∷ es) = HasNoText es

-- one word, and slots and applied ids after it
abbrev pub IsWordAndParts : List Element → Type 0
IsWordAndParts (text w ∷ es) = HasNoText es
IsWordAndParts _ = ⊥

-- a node is written as one word, and after it its slots and its children in the order of its places
pub record IsWordAndPlaces (f : Form) (es : List Element) : Type 0 where
  pub word : IsWordAndParts es
  pub slots : slots_of es ≡ f.names
  pub children : applied_ids es ≡ children f.tree

-- a pattern that was read from a text prints, over the table that this left, as a text that reads as the same pattern and
-- leaves that table as it is
abbrev pub ReadsAsItself : {L : Type 0} → (L → Form) → (L → List Element) → (List Element → Option Form) → Type 0
ReadsAsItself {L} form written read =
    (t u : Table) (bs : List ℕ) (p : Pattern L) → IsUtf8 bs → IsTable u → PatternReads read t (chars bs) (parsed (tree_of form p)) u
    → PatternReads read u (chars (pattern_text written u p)) (parsed (tree_of form p)) u
