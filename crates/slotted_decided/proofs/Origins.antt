-- Each explicit entry that a run which decides leaves comes from one of its rules, or entered in the edits after the rules.
use Rattle.std.proofs.Common.{◌≡◌, ◌<◌, ◌≤◌, ℕ, List, length, arith, inl, inr, subst}
use Rattle.std.specs.Prelude.{◌⊎◌, Bool}
use Rattle.std.proofs.lemmas.Bool.{cases_lt}
use Rattle.slotted_nodes.specs.Form.{Form}
use Rattle.slotted_model.specs.ProofList.{explicit, step_at}
use Rattle.slotted_model_rules.specs.Conditions.{Values}
use Rattle.slotted_operations.specs.Graph.{Graph}
use Rattle.slotted_graph.specs.Extension.{ExtendsTo}
use Rattle.slotted_graph.proofs.Extending.{extends-itself, extends-then}
use Rattle.slotted_model_rules.specs.Runners.{AppliesRules}
use Rattle.slotted_rules.specs.Applying.{ThenModifies}
use Rattle.slotted_rules.specs.Counting.{AppliesRule, IsTurn, SearchesRule}
use Rattle.slotted_rules.specs.declared.counting.TurnCounts.{TurnCounts}
use Rattle.slotted_rules.specs.declared.rewrite.Rewrite.{Rewrite}
use Rattle.slotted_rules.specs.RuleOrigins.{AreFromRules, ComesFromEdits}
use Rattle.slotted_rules.proofs.RuleOrigins.{Came, came-wider, counted-rules, edits-wider, step-before, then-came, then-extends}
use Rattle.slotted_deciding.specs.Steps.{GoesTo}
use Rattle.slotted_deciding.proofs.Assertions.{goes-not-explicit}
use Rattle.slotted_decided.specs.Turns.{GoesDecided, IsDecidedTurn, is_decided, turn_then}

module _ {L C : Type 0} (form : L → Form) (holds : C → Values → Graph → Bool → Type 0) (rules : List (Rewrite L C)) (after : Graph → Graph → Type 0) (modified : (g h : Graph) → after g h → ExtendsTo g h) where
  abbrev From : Graph → Graph → ℕ → Type 0
  From g h n = Came form holds rules g h n ⊎ ComesFromEdits after g h n

  abbrev IsFrom : Graph → Graph → Type 0
  IsFrom g h = ExtendsTo g h × ((n : ℕ) → length g.image.entries ≤ n → n < length h.image.entries → step_at h.image.entries n ≡ explicit → From g h n)

  from-wider : (g f h i : Graph) → ExtendsTo g f → ExtendsTo h i → (n : ℕ) → n < length h.image.entries → From f h n → From g i n
  from-wider g f h i first later n lt (inl c) = inl (came-wider form holds rules g f h i first later n lt c)
  from-wider g f h i first later n lt (inr c) = inr (edits-wider after g f h i first later n c)

  both-from : (s t u : Graph) → IsFrom s t → IsFrom t u → IsFrom s u
  both-from s t u one two = (
    extends-then s t u one.0 two.0,
    λ n past lt new. elim (cases_lt n (length t.image.entries)) [
      | inl before ↦ from-wider s s t u (extends-itself s) two.0 n before (one.1 n past before (step-before t u two.0 n before new))
      | inr past_it ↦ from-wider s t u u one.0 (extends-itself u) n lt (two.1 n past_it lt new)
    ],
  )

  goes-from : (g h : Graph) → GoesTo g h → IsFrom g h
  goes-from g h goes = (goes.extends, λ n past lt new. absurd (goes-not-explicit g h goes n past lt new))

  turn-from : (g h : Graph) (t : TurnCounts) → IsTurn form holds rules after g t h → IsFrom g h
  turn-from g h t turn =
      let c = turn.counts in
      let led : ThenModifies (AppliesRules (SearchesRule form) (AppliesRule form holds) rules) after g h = record { applied = c.applied; by_rules = counted-rules form holds rules g t.rules.items c.applied c.by_rules; by_edits = c.by_edits } in
      (then-extends form holds after modified rules g h led, then-came form holds after modified rules g h led)

  pub decided-from : {g h : Graph} {turns : List TurnCounts} → GoesDecided form holds rules after g turns h → IsFrom g h
  decided-from {g} {h} (is_decided goes) = goes-from g h goes
  decided-from {g} {h} (turn_then {f = f} {t = t} goes turn) =
      both-from g f h (decided-from goes) (both-from f turn.applied h (turn-from f turn.applied t turn.turn) (goes-from turn.applied h turn.goes))

  -- where edits change nothing, from rules alone
  pub decided-rules : (g h : Graph) (turns : List TurnCounts) → ((a b : Graph) → after a b → b ≡ a) → GoesDecided form holds rules after g turns h → AreFromRules form holds rules g h
  decided-rules g h turns never goes n past lt new = elim ((decided-from goes).1 n past lt new) [
    | inl c ↦ c.0
    | inr c ↦ absurd (omega (arith, c.past, none c.before c.left (never c.before c.left c.by_edits) n c.within))
  ]
    where
      none : (a b : Graph) → b ≡ a → (m : ℕ) → m < length b.image.entries → m < length a.image.entries
      none a b same m l = subst (λ (x : Graph). m < length x.image.entries) same l
