-- What a term prints reads as that term: the law.
use Rattle.std.specs.Prelude.{◌≡◌, ℕ, List, Option, Some}
use Rattle.std.specs.Str.{chars, IsUtf8}
use Rattle.slotted_theory.specs.Term.{Term}
use Rattle.slotted_slots.specs.Syntax.{Element}
use Rattle.slotted_slots.specs.Table.{Table, IsTable}
use Rattle.slotted_nodes.specs.Form.{Form}
use Rattle.slotted_patterns.specs.Outcome.{parsed}
use Rattle.slotted_patterns.specs.Parsed.{PatternReads}
use Rattle.slotted_patterns.specs.View.{tree_of}
use Rattle.slotted_patterns.specs.declared.pattern.Pattern.{Pattern}
use Rattle.slotted_terms.specs.AsTerm.{as_term}
use Rattle.slotted_terms.specs.Parsed.{TextReads}
use Rattle.slotted_terms.specs.Shown.{term_text}

-- the text reads as a pattern of these nodes, and this pattern is the term
pub record ReadsAsNodes {L : Type 0} (form : L → Form) (read : List Element → Option Form) (t : Table) (cs : List ℕ) (x : Term) (u : Table) : Type 0 where
  pub nodes : Pattern L
  pub reads : PatternReads read t cs (parsed (tree_of form nodes)) u
  pub term : as_term (tree_of form nodes) ≡ Some x

-- a term that was read from a text prints, over the table that this left, as a text that reads as the same term and leaves
-- that table as it is
abbrev pub TermReadsAsItself : {L : Type 0} → (L → Form) → (Term → List Element) → (List Element → Option Form) → Type 0
TermReadsAsItself {L} form written read =
    (t u : Table) (bs : List ℕ) (x : Term) → IsUtf8 bs → IsTable u → ReadsAsNodes form read t (chars bs) x u →
    TextReads read u (chars (term_text written u x)) (parsed x) u
