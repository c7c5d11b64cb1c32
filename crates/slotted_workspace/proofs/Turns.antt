-- What a turn over a graph says of the graph before and after.
use Rattle.std.proofs.Common.{◌≡◌, ◌⊎◌, ◌↔◌, ◌∙◌, List, Result, Ok, Err, IfOk, IfErr, IsErrOf, ap, refl, sym, inl, inr}
use Rattle.std.specs.Prelude.{Bool, true, false, IsErrAnd, IsTrue}
use Rattle.std.proofs.lemmas.Bool.{false≢true}
use Rattle.slotted_slots.specs.declared.error.Error.{Error}
use Rattle.slotted_slots.specs.declared.error.Error.TheVariants.{Failed}
use Rattle.slotted_slots.specs.Error.{IsShortage}
use Rattle.slotted_nodes.specs.Form.{Form}
use Rattle.slotted_languages.proofs.HandedOn.{error_or}
use Rattle.slotted_operations.specs.Graph.{Graph}
use Rattle.slotted_graph.specs.Extension.{ExtendsTo}
use Rattle.slotted_rules.specs.Applying.{AreRefusedBy, HasProgressed}
use Rattle.slotted_rules.specs.Counting.{CountsRules, RefusesRule}
use Rattle.slotted_rules.specs.declared.counting.TurnCounts.{TurnCounts}
use Rattle.slotted_rules.specs.declared.rewrite.Rewrite.{Rewrite}
use Rattle.slotted_commands.proofs.Steps.{not_true, sound_graph}
use Rattle.slotted_workspace.specs.Turns.{TakesTurn, TurnRefused}
use Rattle.slotted_workspace.specs.declared.sparing.RuleCondition.{RuleCondition}
use Rattle.slotted_workspace.specs.Sparing.{AnswersRule, RuleRefuses}

module _ {L : Type 0} (form : L → Form) (rules : List (Rewrite L (RuleCondition L))) (g h : Graph) (extends : IsTrue h.failed ⊎ ExtendsTo g h) (stays : IsTrue g.failed → h ≡ g) where
  abbrev Refused : Error → Type 0
  Refused e = AreRefusedBy (RefusesRule form (λ c s _. RuleRefuses c s)) rules e

  pub turn-taken : (o : Result TurnCounts Error) → IfOk o (λ t. CountsRules form (AnswersRule form) rules g t.rules.items h) → IfOk o (λ t. IsTrue t.changed ↔ HasProgressed g.image h.image) → IsErrOf o Failed ↔ IsTrue g.failed →
      IsTrue h.failed ↔ IsErrAnd o (λ e. (e ≡ Failed) ⊎ IsShortage e) → IfOk o (TakesTurn form rules g h)
  turn-taken (Err e) counts changed failed fails = tt
  turn-taken (Ok t) counts changed failed fails = record {
    well = sound_graph g.failed (Ok t) t refl failed.1;
    sound = not_true h.failed (λ f. fails.0 f);
    extends = elim extends [ inl f ↦ absurd (fails.0 f) | inr e ↦ e ];
    counts = counts;
    changed = changed;
  }

  pub turn-refused : (o : Result TurnCounts Error) → IsErrOf o Failed ↔ IsTrue g.failed → IsTrue h.failed ↔ IsErrAnd o (λ e. (e ≡ Failed) ⊎ IsShortage e) → IfErr o (λ e. (e ≡ Failed) ⊎ IsShortage e ⊎ Refused e) → IfErr o (TurnRefused form rules g h)
  turn-refused (Ok t) failed fails err = tt
  turn-refused (Err e) failed fails err = by g.failed refl
    where
      other : g.failed ≡ false → {P : Type 0} → e ≡ Failed → P
      other well is = absurd (false≢true (sym well ∙ failed.0 (ap Err is)))

      short : g.failed ≡ false → (e ≡ Failed) ⊎ IsShortage e → IsShortage e
      short well (inl is) = other well is
      short well (inr s) = s

      cause : g.failed ≡ false → (e ≡ Failed) ⊎ IsShortage e ⊎ Refused e → IsShortage e ⊎ Refused e
      cause well (inl is) = other well is
      cause well (inr c) = c

      by : (b : Bool) → g.failed ≡ b → TurnRefused form rules g h e
      by true f = inl (f, stays f, ap (error_or Failed) (failed.1 f))
      by false well = inr (record { well = well; extends = extends; fails = (λ f. short well (fails.0 f), λ s. fails.1 (inr s)); cause = cause well err })
