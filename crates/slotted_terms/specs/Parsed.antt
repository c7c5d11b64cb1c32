-- What a text reads as in a language, and the table of slots that it leaves.
use Rattle.std.specs.Prelude.{◌≡◌, ℕ, List, Option, Some, None}
use Rattle.slotted_theory.specs.Term.{Term}
use Rattle.slotted_slots.specs.Syntax.{Element}
use Rattle.slotted_slots.specs.Table.{Table}
use Rattle.slotted_nodes.specs.Form.{Form}
use Rattle.slotted_patterns.specs.Outcome.{Outcome, PatternOutcome, parsed, outside, not_a_term, number_too_large, out_of_slots}
use Rattle.slotted_patterns.specs.Parsed.{PatternReads}
use Rattle.slotted_terms.specs.AsTerm.{as_term}

-- where terms are read, a pattern that is no term is refused
abbrev pub TermOutcome : Type 0
TermOutcome = Outcome Term (Unit {0})

-- the term, if it is one
abbrev pub term_or_none : Option Term → TermOutcome
term_or_none (Some t) = parsed t
term_or_none None = not_a_term tt

-- what a text writes that reads so as a pattern
abbrev pub term_outcome : PatternOutcome → TermOutcome
term_outcome (parsed p) = term_or_none (as_term p)
term_outcome (outside f) = outside f
term_outcome (not_a_term n) = absurd n
term_outcome number_too_large = number_too_large
term_outcome out_of_slots = out_of_slots

-- what the characters of a text read as, with the table before and after: a text reads as a pattern, and that may be a
-- term
pub data TextReads (read : List Element → Option Form) (t : Table) (cs : List ℕ) : TermOutcome → Table → Type 0 where
  as_pattern : {o : PatternOutcome} {u : Table} → PatternReads read t cs o u → TextReads read t cs (term_outcome o) u

-- a text reads in at most one way, whatever the language
abbrev pub ReadsOneWay : Type 0
ReadsOneWay = (read : List Element → Option Form) (t : Table) (cs : List ℕ) (o p : TermOutcome) (u v : Table) →
    TextReads read t cs o u → TextReads read t cs p v → (o ≡ p) × (u ≡ v)

-- a text reads in at least one way, whatever the language
abbrev pub ReadsSomeWay : Type 0
ReadsSomeWay = (read : List Element → Option Form) (t : Table) (cs : List ℕ) → (o : TermOutcome) × (u : Table) × TextReads read t cs o u
