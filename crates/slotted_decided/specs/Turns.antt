-- Turns of rules, each of which is followed by a decision. A rule's condition is given by its answers.
--     IsDecidedTurn form holds rules after g t h    the rules are applied once, `after` follows, and then nothing is asserted up to h; t tells what the rules did
--     IsStillTurn form holds rules after g t h      such a turn from a graph to one with the same progress measure and as many listed symmetries
--     GoesDecided form holds rules after g ts h     such turns, one after another, which may begin with a decision
--     EndsStill form holds rules after g ts h       such turns, of which the last one is still, and begins at a graph that is decided; there each match of
--                                                   each rule has instances that are equal
--     HaveInstancesUpTo g h p q s      instances of both sides stand for ids of h that are equal up to symmetries, under a substitution of full ids that fill s
--     HasMatchesUpTo holds g h p q     a search for p in a graph with what g has found answers; for each of them there are such instances, or the condition is no
--                                      in a graph between g and h
--     HasRunDecided form holds rules after limits g h r     so the run has led from g to h
use Rattle.std.specs.Prelude.{◌≡◌, ◌≢◌, ◌⊎◌, ◌<◌, ◌≤◌, ℕ, List, [], ◌∷◌, ◌++◌, length, Bool, Contains, Some, false}
use Rattle.slotted_nodes.specs.Form.{Form}
use Rattle.slotted_slots.specs.Table.{AllKnown}
use Rattle.slotted_patterns.specs.Tree.{PatternTree}
use Rattle.slotted_patterns.specs.View.{tree_of}
use Rattle.slotted_model_rules.specs.Conditions.{Values}
use Rattle.slotted_model_rules.specs.Rules.{Rule}
use Rattle.slotted_rule_patterns.specs.PatternCode.{pattern_in}
use Rattle.slotted_operations.specs.Graph.{Graph}
use Rattle.slotted_graph.specs.Extension.{ExtendsTo, IsBetween}
use Rattle.slotted_deciding.specs.Equality.{EqualUpTo, IsDecidedGraph}
use Rattle.slotted_rules.specs.EqualInstances.{HaveEqualInstances}
use Rattle.slotted_rules.specs.Rewriting.{IsSearched}
use Rattle.slotted_rules.specs.Applying.{HasProgressed}
use Rattle.slotted_rules.specs.declared.counting.TurnCounts.{TurnCounts}
use Rattle.slotted_rules.specs.declared.rewrite.Rewrite.{Rewrite}
use Rattle.slotted_rules.specs.Counting.{IsTurn}
use Rattle.slotted_deciding.specs.Steps.{GoesTo}
use Rattle.slotted_decided.specs.declared.running.DecidedLimits.{DecidedLimits}
use Rattle.slotted_decided.specs.declared.running.DecidedRun.{DecidedRun}
use Rattle.slotted_decided.specs.declared.running.DecidedStop.TheVariants.{NodeLimit, Saturated, TurnLimit, Undecided}

pub record HaveInstancesUpTo (g h : Graph) (p q : PatternTree) (s : Values) : Type 0 where
  pub instances : HaveEqualInstances g h p q s
  pub same : (rule : Rule) (l : pattern_in p ≡ Some rule.left) (r : pattern_in q ≡ Some rule.right) (given : List ℕ) (known : AllKnown g.table given) →
      EqualUpTo h.image (instances.each rule l r given known).left (instances.each rule l r given known).right

pub record HasMatchesUpTo (holds : Values → Graph → Bool → Type 0) (g h : Graph) (p q : PatternTree) : Type 0 where
  pub before : Graph
  pub after : Graph
  pub found : List Values
  pub image : before.image ≡ g.image
  pub extends : ExtendsTo g before
  pub searched : IsSearched p before found after
  pub end : ExtendsTo after h
  pub settled : (s : Values) → Contains found s → HaveInstancesUpTo g h p q s ⊎ ((m : Graph) × IsBetween g h m × holds s m false)

module _ {L C : Type 0} (form : L → Form) (holds : C → Values → Graph → Bool → Type 0) (rules : List (Rewrite L C)) (after : Graph → Graph → Type 0) where
  pub record IsDecidedTurn (g : Graph) (t : TurnCounts) (h : Graph) : Type 0 where
    pub applied : Graph
    pub turn : IsTurn form holds rules after g t applied
    pub goes : GoesTo applied h

  pub record IsStillTurn (g : Graph) (t : TurnCounts) (h : Graph) : Type 0 where
    pub applied : Graph
    pub turn : IsTurn form holds rules after g t applied
    pub still : ¬ HasProgressed g.image applied.image
    pub listed : length applied.image.symmetries ≡ length g.image.symmetries
    pub goes : GoesTo applied h

  pub data GoesDecided (g : Graph) : List TurnCounts → Graph → Type 0 where
    is_decided : {h : Graph} → GoesTo g h → GoesDecided g [] h
    turn_then : {f h : Graph} {ts : List TurnCounts} {t : TurnCounts} → GoesDecided g ts f → IsDecidedTurn f t h → GoesDecided g (ts ++ t ∷ []) h

  pub record EndsStill (g : Graph) (ts : List TurnCounts) (h : Graph) : Type 0 where
    pub before : List TurnCounts
    pub last : TurnCounts
    pub from : Graph
    pub turns : ts ≡ before ++ last ∷ []
    pub goes : GoesDecided g before from
    pub decided : IsDecidedGraph from
    pub still : IsStillTurn from last h
    pub matches : (r : Rewrite L C) → Contains rules r → HasMatchesUpTo (holds r.condition) from h (tree_of form r.left) (tree_of form r.right)

  pub record HasRunDecided (limits : DecidedLimits) (g h : Graph) (r : DecidedRun) : Type 0 where
    pub turns : GoesDecided g r.turns.items h
    pub few : length r.turns.items ≤ limits.turns
    pub full : r.stop ≡ TurnLimit → length r.turns.items ≡ limits.turns
    pub cut : r.stop ≡ NodeLimit → limits.nodes < length h.filed
    pub decided : r.stop ≢ Undecided → IsDecidedGraph h
    pub saturated : r.stop ≡ Saturated → EndsStill g r.turns.items h
