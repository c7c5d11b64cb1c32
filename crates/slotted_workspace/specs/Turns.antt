-- One turn of the rules of a workspace.
--     TakesTurn form rules g h t      from g to h all rules were applied once, and these are the counts
--     TurnRefused form rules g h e    such a turn was refused
use Rattle.std.specs.Prelude.{◌≡◌, ◌⊎◌, ◌↔◌, List, false, IsTrue}
use Rattle.slotted_slots.specs.declared.error.Error.{Error}
use Rattle.slotted_slots.specs.Error.{IsShortage}
use Rattle.slotted_nodes.specs.Form.{Form}
use Rattle.slotted_operations.specs.Graph.{Graph}
use Rattle.slotted_graph.specs.Extension.{ExtendsTo}
use Rattle.slotted_rules.specs.Applying.{AreRefusedBy, HasProgressed}
use Rattle.slotted_rules.specs.Counting.{CountsRules, RefusesRule}
use Rattle.slotted_rules.specs.declared.counting.TurnCounts.{TurnCounts}
use Rattle.slotted_rules.specs.declared.rewrite.Rewrite.{Rewrite}
use Rattle.slotted_workspace.specs.Asked.{HadFailed}
use Rattle.slotted_workspace.specs.declared.sparing.RuleCondition.{RuleCondition}
use Rattle.slotted_workspace.specs.Sparing.{AnswersRule, RuleRefuses}

-- the counts say what each rule found, and how much of that it united; the turn changed something exactly if the measure of progress did
pub record TakesTurn {L : Type 0} (form : L → Form) (rules : List (Rewrite L (RuleCondition L))) (g h : Graph) (t : TurnCounts) : Type 0 where
  pub well : g.failed ≡ false
  pub sound : h.failed ≡ false
  pub extends : ExtendsTo g h
  pub counts : CountsRules form (AnswersRule form) rules g t.rules.items h
  pub changed : IsTrue t.changed ↔ HasProgressed g.image h.image

-- what was applied before stays
pub record IsRefusedTurn {L : Type 0} (form : L → Form) (rules : List (Rewrite L (RuleCondition L))) (g h : Graph) (e : Error) : Type 0 where
  pub well : g.failed ≡ false
  pub extends : IsTrue h.failed ⊎ ExtendsTo g h
  pub fails : IsTrue h.failed ↔ IsShortage e
  pub cause : IsShortage e ⊎ AreRefusedBy (RefusesRule form (λ c s _. RuleRefuses c s)) rules e

abbrev pub TurnRefused : {L : Type 0} → (L → Form) → List (Rewrite L (RuleCondition L)) → Graph → Graph → Error → Type 0
TurnRefused form rules g h e = HadFailed g h e ⊎ IsRefusedTurn form rules g h e
