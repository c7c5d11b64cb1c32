-- Turns that are counted: one more.
use Rattle.std.proofs.Common.{◌≡◌, ◌<◌, ◌≤◌, ℕ, List, [], ◌∷◌, ◌++◌, length, true, false, sym, subst, arith, inl, inr}
use Rattle.std.specs.Prelude.{◌↔◌, ◌⊎◌, Bool, IsTrue}
use Rattle.slotted_slots.specs.declared.error.Error.{Error}
use Rattle.slotted_slots.specs.Error.{IsShortage}
use Rattle.slotted_nodes.specs.Form.{Form}
use Rattle.slotted_model_rules.specs.Conditions.{Values}
use Rattle.slotted_operations.specs.Graph.{Graph}
use Rattle.slotted_rules.specs.Applying.{HasProgressed}
use Rattle.slotted_rules.specs.Counting.{CountsAndModifies, IsTurn, RefusesCounted}
use Rattle.slotted_rules.specs.declared.counting.TurnCounts.{TurnCounts}
use Rattle.slotted_rules.specs.declared.rewrite.Rewrite.{Rewrite}
use Rattle.slotted_rules.specs.Counted.{BreaksTurns, GoesOn, TakesTurns, no_turn, reaches_limit, saturates, turn_more}

module _ {L C : Type 0} (form : L → Form) (holds : C → Values → Graph → Bool → Type 0) (rules : List (Rewrite L C)) (after : Graph → Graph → Type 0) (limit : ℕ) (g : Graph) where
  pub no-turns : (turns : List TurnCounts) → turns ≡ [] → GoesOn form holds rules after g turns g
  no-turns turns none = subst (λ ts. GoesOn form holds rules after g ts g) (sym none) no_turn

  pub at-limit : (turns : List TurnCounts) (h : Graph) → length turns ≤ limit → limit ≤ length turns → GoesOn form holds rules after g turns h → TakesTurns form holds rules after limit g turns h
  at-limit turns h within past goes = reaches_limit goes (omega (arith, within, past))

  module _ (turns new : List TurnCounts) (f h : Graph) (t : TurnCounts) (goes : GoesOn form holds rules after g turns f) (counts : CountsAndModifies form holds rules after f t.rules.items h) (changed : IsTrue t.changed ↔ HasProgressed f.image h.image)
      (is : new ≡ turns ++ t ∷ []) where
    turn : IsTurn form holds rules after f t h
    turn = record { counts = counts; changed = changed }

    pub turn-added : t.changed ≡ true → GoesOn form holds rules after g new h
    turn-added went_on = subst (λ ts. GoesOn form holds rules after g ts h) (sym is) (turn_more goes turn went_on)

    pub turn-last : t.changed ≡ false → length turns < limit → TakesTurns form holds rules after limit g new h
    turn-last unchanged few = saturates turns f t is goes turn unchanged few

  -- a refusal is a shortage, or the turns before it went on
  pub turn-broken : (refuses : C → Values → Graph → Error → Type 0) (turns : List TurnCounts) (f h : Graph) → GoesOn form holds rules after g turns f → length turns < limit → (e : Error) → (IsTrue h.failed → IsShortage e) →
      IsTrue h.failed ⊎ RefusesCounted form holds refuses rules f h e → IsShortage e ⊎ BreaksTurns form holds refuses rules after limit g h e
  turn-broken refuses turns f h goes few e short (inl failed) = inl (short failed)
  turn-broken refuses turns f h goes few e short (inr refused) = inr (record {
    turns = turns;
    moment = f;
    goes_on = goes;
    few = few;
    refused = refused;
  })
