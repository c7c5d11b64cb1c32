-- Once the graph is decided, instances of both sides of a rule are equal up to symmetries, for each match of a turn before.
use Rattle.std.proofs.Common.{◌≡◌, List, inl, inr}
use Rattle.std.specs.Prelude.{◌⊎◌, Bool, Contains, false}
use Rattle.slotted_nodes.specs.Form.{Form}
use Rattle.slotted_patterns.specs.Tree.{PatternTree}
use Rattle.slotted_patterns.specs.View.{tree_of}
use Rattle.slotted_model_rules.specs.Conditions.{Values}
use Rattle.slotted_model_rules.specs.Runners.{AppliesRules}
use Rattle.slotted_operations.specs.Graph.{Graph}
use Rattle.slotted_graph.specs.Extension.{ExtendsTo, IsBetween}
use Rattle.slotted_graph.specs.States.{IsGraph}
use Rattle.slotted_graph.proofs.Extending.{extends-itself, extends-then}
use Rattle.slotted_deciding.specs.Equality.{IsDecidedGraph}
use Rattle.slotted_deciding.proofs.DecidedIds.{decided-full}
use Rattle.slotted_rules.specs.Counting.{AppliesRule, SearchesRule}
use Rattle.slotted_rules.specs.EqualInstances.{HasSettledMatches, HaveEqualInstances}
use Rattle.slotted_rules.specs.Rewriting.{HasEquationFor, IsSettled}
use Rattle.slotted_rules.specs.declared.counting.TurnCounts.{TurnCounts}
use Rattle.slotted_rules.specs.declared.rewrite.Rewrite.{Rewrite}
use Rattle.slotted_rules.proofs.EqualInstances.{equation-equal, rules-settled}
use Rattle.slotted_rules.proofs.RuleOrigins.{counted-rules}
use Rattle.slotted_rules.proofs.Settling.{settled-wider}
use Rattle.slotted_decided.specs.Turns.{HasMatchesUpTo, HaveInstancesUpTo, IsStillTurn}

equation-upto : (g h : Graph) → IsGraph h → IsDecidedGraph h → (p q : PatternTree) (s : Values) → HasEquationFor g h p q s → HaveInstancesUpTo g h p q s
equation-upto g h is decided p q s e =
    let instances : HaveEqualInstances g h p q s = equation-equal h is g p q s e in
    record {
      instances = instances;
      same = λ rule l r given known. let i = instances.each rule l r given known in decided-full h decided i.left i.right i.left_full i.right_full i.equal;
    }

settled-upto : (holds : Values → Graph → Bool → Type 0) (g h : Graph) → IsGraph h → IsDecidedGraph h → (p q : PatternTree) (s : Values) → IsSettled holds p q g h s →
    HaveInstancesUpTo g h p q s ⊎ ((m : Graph) × IsBetween g h m × holds s m false)
settled-upto holds g h is decided p q s (inl e) = inl (equation-upto g h is decided p q s e)
settled-upto holds g h is decided p q s (inr m) = inr m

-- matches of a turn that settled them, in a later graph that is decided
matches-upto : (holds : Values → Graph → Bool → Type 0) (g f h : Graph) → ExtendsTo f h → IsGraph h → IsDecidedGraph h → (p q : PatternTree) → HasSettledMatches holds g f p q → HasMatchesUpTo holds g h p q
matches-upto holds g f h later is decided p q e = record {
  before = e.before;
  after = e.after;
  found = e.found;
  image = e.image;
  extends = e.extends;
  searched = e.searched;
  end = extends-then e.after f h e.end later;
  settled = λ s c. settled-upto holds g h is decided p q s (settled-wider g g f h (extends-itself g) later p q s holds (e.settled s c));
}

module _ {L C : Type 0} (form : L → Form) (holds : C → Values → Graph → Bool → Type 0) (rules : List (Rewrite L C)) (after : Graph → Graph → Type 0) (modified : (g h : Graph) → after g h → ExtendsTo g h) where
  pub turn-matches : (g h : Graph) (t : TurnCounts) → IsStillTurn form holds rules after g t h → IsDecidedGraph h → (r : Rewrite L C) → Contains rules r → HasMatchesUpTo (holds r.condition) g h (tree_of form r.left) (tree_of form r.right)
  turn-matches g h t turn decided r c =
      let made = turn.turn.counts in
      let applied : AppliesRules (SearchesRule form) (AppliesRule form holds) rules g made.applied = counted-rules form holds rules g t.rules.items made.applied made.by_rules in
      let later : ExtendsTo made.applied h = extends-then made.applied turn.applied h (modified made.applied turn.applied made.by_edits) turn.goes.extends in
      matches-upto (holds r.condition) g made.applied h later turn.goes.graph decided (tree_of form r.left) (tree_of form r.right) (rules-settled form holds rules g made.applied applied r c)
