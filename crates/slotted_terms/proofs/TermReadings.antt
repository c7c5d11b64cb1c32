-- A text reads as a term in just one way, since it reads as a pattern in just one way.
use Rattle.std.proofs.Common.{◌≡◌, ℕ, List, sym, subst, ap}
use Rattle.std.specs.Prelude.{Option, Some, Result, Ok, Err, IfOk, IfErr, IfSome}
use Rattle.slotted_theory.specs.Term.{Term}
use Rattle.slotted_slots.specs.Syntax.{Lexeme, Element}
use Rattle.slotted_slots.specs.Table.{Table}
use Rattle.slotted_slots.specs.declared.error.Error.{Error}
use Rattle.slotted_slots.specs.declared.error.Error.TheVariants.{OutOfMemory, OutOfSlots, Failed, Parse, NotATerm, SubstInSearch, MissingVariable, NotEqual, BadStep, UnknownClass, NumberTooLarge}
use Rattle.slotted_nodes.specs.Form.{Form}
use Rattle.slotted_nodes.specs.ReadFrom.{IsReadFrom}
use Rattle.slotted_patterns.specs.Tree.{PatternTree}
use Rattle.slotted_patterns.specs.Outcome.{parsed, Refuses, Answers}
use Rattle.slotted_patterns.specs.View.{tree_of}
use Rattle.slotted_patterns.specs.Tokens.{HasTokens}
use Rattle.slotted_patterns.specs.Parsed.{PatternReads, by_tokens}
use Rattle.slotted_terms.specs.Valid.{IsValidTerm}
use Rattle.slotted_terms.proofs.ValidTexts.{term_valid}
use Rattle.slotted_patterns.proofs.OneReading as unique
use Rattle.slotted_patterns.proofs.SomeReading as total
use Rattle.slotted_patterns.proofs.Refusals.{Refuses-weaker}
use Rattle.slotted_patterns.proofs.KnownPatterns.{answer_known}
use Rattle.slotted_terms.specs.Reader.{IsReadAs, ReadAsTerm}
use Rattle.slotted_terms.specs.ReadAgain.{ReadsAsNodes}
use Rattle.slotted_terms.specs.AsTerm.{as_term}
use Rattle.slotted_terms.specs.Parsed.{TermOutcome, TextReads, as_pattern, term_outcome, term_or_none}

pub one_reading : (read : List Element → Option Form) (t : Table) (cs : List ℕ) (o p : TermOutcome) (u v : Table) → TextReads read t cs o u → TextReads read t cs p v → (o ≡ p) × (u ≡ v)
one_reading read t cs o p u v (as_pattern {o = a} h) (as_pattern {o = b} k) =
    let e = unique.one_reading read t cs a b u v h k in
    (ap term_outcome e.0, e.1)

pub some_reading : (read : List Element → Option Form) (t : Table) (cs : List ℕ) → (o : TermOutcome) × (u : Table) × TextReads read t cs o u
some_reading read t cs =
    let r = total.some_reading read t cs in
    (term_outcome r.0, r.1, as_pattern r.2)

module _ (read : List Element → Option Form) (t : Table) (cs : List ℕ) (u : Table) where
  -- a pattern that is this term
  pub reads_term : (p : PatternTree) (x : Term) → PatternReads read t cs (parsed p) u → as_term p ≡ Some x → TextReads read t cs (parsed x) u
  reads_term p x h e = subst (λ o. TextReads read t cs (term_or_none o) u) e (as_pattern h)

  -- a text that is no pattern
  pub refuses_pattern : (e : Error) → Refuses (λ o. PatternReads read t cs o u) e → Refuses (λ o. TextReads read t cs o u) e
  refuses_pattern (Parse p) h = as_pattern h
  refuses_pattern NotATerm h = absurd h.0
  refuses_pattern NumberTooLarge h = as_pattern h
  refuses_pattern OutOfSlots h = as_pattern h
  refuses_pattern OutOfMemory h = tt
  refuses_pattern Failed h = h
  refuses_pattern SubstInSearch h = h
  refuses_pattern (MissingVariable v) h = h
  refuses_pattern NotEqual h = h
  refuses_pattern BadStep h = h
  refuses_pattern UnknownClass h = h

-- tokens of a text, and what they read as
module _ {L : Type 0} (form : L → Form) (read : List Element → Option Form) (t : Table) (cs : List ℕ) (u : Table) (ls : List Lexeme) (tokens : HasTokens t cs ls u) where
  pub answers_tokens : (r : Result Term Error) → IfOk r (IsReadAs form read ls) → IfErr r (Refuses (ReadAsTerm read ls)) → Answers (λ x. x) (λ o. TextReads read t cs o u) r
  answers_tokens (Ok x) h k = reads_term read t cs u (tree_of form h.nodes) x (by_tokens tokens h.reads) h.term
  answers_tokens (Err e) h k =
      Refuses-weaker (ReadAsTerm read ls) (λ o. TextReads read t cs o u) e k (λ o q. subst (λ o. TextReads read t cs o u) (sym q.2) (as_pattern (by_tokens tokens q.1)))

  pub valid_tokens : ((es : List Element) → IfSome (read es) (IsReadFrom es)) → (r : Result Term Error) → IfOk r (IsReadAs form read ls) → IfOk r (IsValidTerm u)
  valid_tokens faithful (Ok x) h = term_valid u (tree_of form h.nodes) x (answer_known form read faithful t cs u (Ok h.nodes) (by_tokens tokens h.reads)) h.term
  valid_tokens faithful (Err e) h = tt

  pub nodes_tokens : (r : Result Term Error) → IfOk r (IsReadAs form read ls) → IfOk r (λ x. ReadsAsNodes form read t cs x u)
  nodes_tokens (Ok x) h = record { nodes = h.nodes; reads = by_tokens tokens h.reads; term = h.term }
  nodes_tokens (Err e) h = tt
