-- A rule that is kept can be searched, as the one that was read.
use Rattle.std.proofs.Common.{◌≡◌, ◌∙◌, ℕ, List, ap, sym, subst}
use Rattle.std.specs.Prelude.{Bool, Option}
use Rattle.slotted_slots.specs.Syntax.{Element}
use Rattle.slotted_slots.specs.Table.{Table}
use Rattle.slotted_nodes.specs.Form.{Form}
use Rattle.slotted_patterns.specs.Known.{HasKnownNames}
use Rattle.slotted_patterns.specs.View.{tree_of}
use Rattle.slotted_rule_patterns.specs.Variables.{first_lacking, has_substitution}
use Rattle.slotted_operations.specs.Graph.{Graph}
use Rattle.slotted_rules.specs.Written.{CanBeSearched}
use Rattle.slotted_rules.specs.declared.condition_tree.CondTree.{CondTree}
use Rattle.slotted_rules.specs.declared.rewrite.Rewrite.{Rewrite}
use Rattle.slotted_workspace.specs.Asked.{ReadsKept, ReadsRule}
use Rattle.slotted_workspace.specs.Spaces.{WrittenRule, kept_as, rule_of}
use Rattle.slotted_workspace.specs.declared.sparing.RuleCondition.{RuleCondition}

module _ {L : Type 0} (form : L → Form) (sparing : Bool) (q : Rewrite L CondTree) where
  pub kept-searched : (t : Table) → CanBeSearched form t q → (r : Rewrite L (RuleCondition L)) → rule_of form r ≡ kept_as form sparing q → CanBeSearched form t r
  kept-searched t v r is =
      let left : tree_of form r.left ≡ tree_of form q.left = ap (λ (x : WrittenRule). x.left) is in
      let right : tree_of form r.right ≡ tree_of form q.right = ap (λ (x : WrittenRule). x.right) is in
      record {
        left_known = subst (HasKnownNames t) (sym left) v.left_known;
        right_known = subst (HasKnownNames t) (sym right) v.right_known;
        none_replaced = ap has_substitution left ∙ v.none_replaced;
        none_lacking = (λ i. first_lacking (right i) (left i)) ∙ v.none_lacking;
      }

  pub reads-kept : (read : List Element → Option Form) (g h : Graph) (name left right : List ℕ) (condition : CondTree) → ReadsRule form read g h name left right condition q → (r : Rewrite L (RuleCondition L)) → rule_of form r ≡ kept_as form sparing q →
      ReadsKept form read sparing g h name left right condition (rule_of form r)
  reads-kept read g h name left right condition reads r is = record { rule = q; reads = reads; kept = is }
