-- Turns of written rules that are counted. A rule's condition is given by its answers.
--     GoesOn form holds rules after g turns h         turns that each changed the measure, one after another
--     TakesTurns form holds rules after limit g turns h   turns until one does not change the measure, and at most so many
--     BreaksTurns form holds refuses rules after limit g h e    turns that each changed it, fewer than the limit, and one more in which a rule is refused
use Rattle.std.specs.Prelude.{◌≡◌, ◌<◌, ℕ, List, [], ◌∷◌, ◌++◌, length, Bool, true, false}
use Rattle.slotted_slots.specs.declared.error.Error.{Error}
use Rattle.slotted_nodes.specs.Form.{Form}
use Rattle.slotted_model_rules.specs.Conditions.{Values}
use Rattle.slotted_operations.specs.Graph.{Graph}
use Rattle.slotted_rules.specs.Counting.{IsTurn, RefusesCounted}
use Rattle.slotted_rules.specs.declared.counting.TurnCounts.{TurnCounts}
use Rattle.slotted_rules.specs.declared.rewrite.Rewrite.{Rewrite}

pub data GoesOn {L C : Type 0} (form : L → Form) (holds : C → Values → Graph → Bool → Type 0) (rules : List (Rewrite L C)) (after : Graph → Graph → Type 0) : Graph → List TurnCounts → Graph → Type 0 where
  no_turn : {g : Graph} → GoesOn form holds rules after g [] g
  turn_more : {g f h : Graph} {turns : List TurnCounts} {t : TurnCounts} → GoesOn form holds rules after g turns f → IsTurn form holds rules after f t h → t.changed ≡ true →
      GoesOn form holds rules after g (turns ++ t ∷ []) h

pub data TakesTurns {L C : Type 0} (form : L → Form) (holds : C → Values → Graph → Bool → Type 0) (rules : List (Rewrite L C)) (after : Graph → Graph → Type 0) (limit : ℕ) (g : Graph) (turns : List TurnCounts) (h : Graph) : Type 0 where
  reaches_limit : GoesOn form holds rules after g turns h → length turns ≡ limit → TakesTurns form holds rules after limit g turns h
  saturates : (before : List TurnCounts) (f : Graph) (last : TurnCounts) → turns ≡ before ++ last ∷ [] → GoesOn form holds rules after g before f → IsTurn form holds rules after f last h → last.changed ≡ false →
      length before < limit → TakesTurns form holds rules after limit g turns h

pub record BreaksTurns {L C : Type 0} (form : L → Form) (holds : C → Values → Graph → Bool → Type 0) (refuses : C → Values → Graph → Error → Type 0) (rules : List (Rewrite L C)) (after : Graph → Graph → Type 0) (limit : ℕ) (g h : Graph) (e : Error) : Type 0 where
  pub turns : List TurnCounts
  pub moment : Graph
  pub goes_on : GoesOn form holds rules after g turns moment
  pub few : length turns < limit
  pub refused : RefusesCounted form holds refuses rules moment h e
