-- What a text reads as in a language, and the table of slots that it leaves.
use Rattle.std.specs.Prelude.{◌≡◌, ℕ, List, Option}
use Rattle.std.specs.Str.{chars}
use Rattle.slotted_slots.specs.Syntax.{Lexeme, Element}
use Rattle.slotted_slots.specs.Table.{Table}
use Rattle.slotted_nodes.specs.Form.{Form}
use Rattle.slotted_patterns.specs.Outcome.{PatternOutcome}
use Rattle.slotted_patterns.specs.Tree.{PatternTree}
use Rattle.slotted_patterns.specs.Grammar.{Reading, ReadsPattern, whole}
use Rattle.slotted_patterns.specs.Tokens.{HasTokens, HasBadToken}

-- what tokens read as: one pattern with nothing after it, or their one fault
pub data TokensRead (read : List Element → Option Form) (ls : List Lexeme) : PatternOutcome → Type 0 where
  as_pattern : {r : Reading PatternTree} → ReadsPattern read ls r → TokensRead read ls (whole r)

-- what the characters of a text read as, with the table before and after
pub data PatternReads (read : List Element → Option Form) (t : Table) (cs : List ℕ) : PatternOutcome → Table → Type 0 where
  without_tokens : {o : PatternOutcome} {u : Table} → HasBadToken t cs o u → PatternReads read t cs o u
  by_tokens : {ls : List Lexeme} {o : PatternOutcome} {u : Table} → HasTokens t cs ls u → TokensRead read ls o → PatternReads read t cs o u

-- what a text reads as, with the table before and after
abbrev pub TextReadsPattern : (List Element → Option Form) → Table → List ℕ → Table → PatternOutcome → Type 0
TextReadsPattern read t bs u o = PatternReads read t (chars bs) o u

-- a text reads in at most one way, whatever the language
abbrev pub ReadsOneWay : Type 0
ReadsOneWay = (read : List Element → Option Form) (t : Table) (cs : List ℕ) (o p : PatternOutcome) (u v : Table) →
    PatternReads read t cs o u → PatternReads read t cs p v → (o ≡ p) × (u ≡ v)

-- a text reads in at least one way, whatever the language
abbrev pub ReadsSomeWay : Type 0
ReadsSomeWay = (read : List Element → Option Form) (t : Table) (cs : List ℕ) → (o : PatternOutcome) × (u : Table) ×
    PatternReads read t cs o u
