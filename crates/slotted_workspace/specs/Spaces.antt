-- What contracts see of a workspace.
--     WrittenRule        a rule: its name, the trees of both sides, and its condition; and, of a sparing rule, the patterns whose instances it looks up
--     rule_of form r     what the kept rule r is
--     kept_as form y r   what the rule r is kept as: sparing, or as it is
--     Space              its number, its graph, its terms in the order in which they were added, its rules, and whether the next ones are sparing
--     empty_space n      a workspace with the number n, in which nothing was done
--     term_at s h        the term that the handle h stands for, if it is one of this workspace
use Rattle.std.specs.Prelude.{ℕ, List, [], Bool, true, false, Option, None, Some, if◌then◌else◌, nat_eq, refl, slice_get, string_bytes}
use Rattle.std.specs.Coded.{Coded, code_by, coded×, coded_ℕ, coded_bool, coded_list, coded_option}
use Rattle.slotted_slots.specs.Table.{empty_table}
use Rattle.slotted_theory.specs.Term.{Term, term_code}
use Rattle.slotted_nodes.specs.Form.{Form}
use Rattle.slotted_patterns.specs.Tree.{PatternTree}
use Rattle.slotted_patterns.specs.View.{tree_of}
use Rattle.slotted_operations.specs.Graph.{Graph, graph_code}
use Rattle.slotted_graph.specs.Analysed.{new_graph}
use Rattle.slotted_data.specs.Meaning.{unit_code}
use Rattle.slotted_rules.specs.declared.condition_tree.CondTree.{CondTree}
use Rattle.slotted_rules.specs.contracts.condition_tree.CondTree as condition
use Rattle.slotted_rules.specs.declared.rewrite.Rewrite.{Rewrite}
use Rattle.slotted_workspace.specs.PatternCode.{pattern_code}
use Rattle.slotted_workspace.specs.declared.handle.Handle.{Handle}
use Rattle.slotted_workspace.specs.declared.sparing.RuleCondition.{RuleCondition}
use Rattle.slotted_workspace.specs.declared.sparing.RuleCondition.TheVariants.{Plain, Sparing}

pub record WrittenRule : Type 0 where
  pub name : List ℕ
  pub left : PatternTree
  pub right : PatternTree
  pub condition : CondTree
  pub unless : Option (PatternTree × PatternTree)

abbrev pub rule_code : Coded WrittenRule
rule_code =
    code_by (List ℕ × (PatternTree × (PatternTree × (CondTree × Option (PatternTree × PatternTree)))))
    (coded× (coded_list coded_ℕ) (coded× pattern_code (coded× pattern_code (coded× condition.the_row.coded (coded_option (coded× pattern_code pattern_code)))))) (λ r. (r.name, (r.left, (r.right, (r.condition, r.unless)))))
    (λ p. record { name = p.0; left = p.1.0; right = p.1.1.0; condition = p.1.1.1.0; unless = p.1.1.1.1 }) (λ _. refl)

abbrev pub condition_in : {L : Type 0} → RuleCondition L → CondTree
condition_in (Plain c) = c
condition_in (Sparing u) = u.condition

abbrev pub unless_in : {L : Type 0} → (L → Form) → RuleCondition L → Option (PatternTree × PatternTree)
unless_in form (Plain c) = None
unless_in form (Sparing u) = Some (tree_of form u.left, tree_of form u.right)

abbrev pub rule_of : {L : Type 0} → (L → Form) → Rewrite L (RuleCondition L) → WrittenRule
rule_of form r = record { name = string_bytes r.name; left = tree_of form r.left; right = tree_of form r.right; condition = condition_in r.condition; unless = unless_in form r.condition }

-- a sparing rule looks up its own sides
abbrev pub unless_if : Bool → PatternTree → PatternTree → Option (PatternTree × PatternTree)
unless_if true left right = Some (left, right)
unless_if false left right = None

abbrev pub kept_as : {L : Type 0} → (L → Form) → Bool → Rewrite L CondTree → WrittenRule
kept_as form sparing r = record { name = string_bytes r.name; left = tree_of form r.left; right = tree_of form r.right; condition = r.condition; unless = unless_if sparing (tree_of form r.left) (tree_of form r.right) }

pub record Space : Type 0 where
  pub number : ℕ
  pub graph : Graph
  pub terms : List Term
  pub rules : List WrittenRule
  pub sparing : Bool

abbrev pub space_code : Coded Space
space_code =
    code_by (ℕ × (Graph × (List Term × (List WrittenRule × Bool)))) (coded× coded_ℕ (coded× graph_code (coded× (coded_list term_code) (coded× (coded_list rule_code) coded_bool)))) (λ s. (s.number, (s.graph, (s.terms, (s.rules, s.sparing)))))
    (λ p. record { number = p.0; graph = p.1.0; terms = p.1.1.0; rules = p.1.1.1.0; sparing = p.1.1.1.1 }) (λ _. refl)

abbrev pub empty_space : ℕ → Space
empty_space number = record { number = number; graph = new_graph (unit_code, unit_code) tt empty_table; terms = []; rules = []; sparing = false }

abbrev pub term_at : Space → Handle → Option Term
term_at s h = if nat_eq h.workspace s.number then slice_get s.terms h.index else None
