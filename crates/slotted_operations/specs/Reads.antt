-- What a text reads as over the table of a graph, and how it leaves that table.
--     AnswersTerm, AnswersPattern        the answer of a parser over the graph g, which leaves h
--     NodesAreRead form read g h text x  the text reads as a pattern of these nodes, which is the term x
use Rattle.std.specs.Prelude.{◌≡◌, ℕ, List, Option, Result, false}
use Rattle.std.specs.Str.{chars}
use Rattle.slotted_theory.specs.Term.{Term}
use Rattle.slotted_slots.specs.declared.error.Error.{Error}
use Rattle.slotted_slots.specs.Syntax.{Element}
use Rattle.slotted_nodes.specs.Form.{Form}
use Rattle.slotted_patterns.specs.declared.pattern.Pattern.{Pattern}
use Rattle.slotted_patterns.specs.Outcome.{Answers}
use Rattle.slotted_patterns.specs.Parsed.{PatternReads}
use Rattle.slotted_patterns.specs.View.{tree_of}
use Rattle.slotted_terms.specs.Parsed.{TextReads}
use Rattle.slotted_terms.specs.ReadAgain.{ReadsAsNodes}
use Rattle.slotted_operations.specs.Graph.{Graph}

-- where g has not failed, the answer is the term that the text reads as over the table of g, or the text's fault
abbrev pub AnswersTerm : (List Element → Option Form) → Graph → Graph → List ℕ → Result Term Error → Type 0
AnswersTerm read g h text r = g.failed ≡ false → Answers (λ t. t) (λ o. TextReads read g.table (chars text) o h.table) r

-- the same of the pattern
abbrev pub AnswersPattern : {L : Type 0} → (L → Form) → (List Element → Option Form) → Graph → Graph → List ℕ →
    Result (Pattern L) Error → Type 0
AnswersPattern form read g h text r =
    g.failed ≡ false → Answers (tree_of form) (λ o. PatternReads read g.table (chars text) o h.table) r

abbrev pub NodesAreRead : {L : Type 0} → (L → Form) → (List Element → Option Form) → Graph → Graph → List ℕ → Term → Type 0
NodesAreRead form read g h text x = ReadsAsNodes form read g.table (chars text) x h.table
