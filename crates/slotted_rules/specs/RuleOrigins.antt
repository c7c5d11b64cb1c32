-- Where the equations that rules assert come from.
--     ComesFromRules form holds rules g h n    the entry n of h is an equation of instances of both sides of one of the rules, under an answer of its search
--                                              between g and h, whose condition was yes in a graph between them, and has the rule's name
--     AreFromRules form holds rules g h        so is each explicit entry that g has not
--     ComesFromEdits after g h n               the entry n entered where `after`, rounds of edits, leads from a graph after g to one before h
--     AreFromRulesOrEdits form holds rules after g h   each explicit entry that g has not comes from a rule, or from edits
use Rattle.std.specs.Prelude.{◌≡◌, ◌⊎◌, ◌<◌, ◌≤◌, ℕ, List, length, Contains, Bool, string_bytes}
use Rattle.slotted_nodes.specs.Form.{Form}
use Rattle.slotted_patterns.specs.View.{tree_of}
use Rattle.slotted_model.specs.ProofList.{explicit, step_at}
use Rattle.slotted_model_rules.specs.Conditions.{Values}
use Rattle.slotted_operations.specs.Graph.{Graph}
use Rattle.slotted_graph.specs.Extension.{ExtendsTo}
use Rattle.slotted_rules.specs.declared.rewrite.Rewrite.{Rewrite}
use Rattle.slotted_rules.specs.Rewriting.{ComesFromRule, IsSearched}

pub record ComesFromRules {L C : Type 0} (form : L → Form) (holds : C → Values → Graph → Bool → Type 0) (rules : List (Rewrite L C)) (g h : Graph) (n : ℕ) : Type 0 where
  pub rule : Rewrite L C
  pub is_one : Contains rules rule
  pub before : Graph
  pub after : Graph
  pub found : List Values
  pub start : ExtendsTo g before
  pub searched : IsSearched (tree_of form rule.left) before found after
  pub end : ExtendsTo after h
  pub comes : ComesFromRule (holds rule.condition) (tree_of form rule.left) (tree_of form rule.right) (string_bytes rule.name) found g h n

abbrev pub AreFromRules : {L C : Type 0} → (L → Form) → (C → Values → Graph → Bool → Type 0) → List (Rewrite L C) → Graph → Graph → Type 0
AreFromRules form holds rules g h = (n : ℕ) → length g.image.entries ≤ n → n < length h.image.entries → step_at h.image.entries n ≡ explicit → ComesFromRules form holds rules g h n

pub record ComesFromEdits (after : Graph → Graph → Type 0) (g h : Graph) (n : ℕ) : Type 0 where
  pub before : Graph
  pub left : Graph
  pub by_edits : after before left
  pub start : ExtendsTo g before
  pub end : ExtendsTo left h
  pub past : length before.image.entries ≤ n
  pub within : n < length left.image.entries

abbrev pub AreFromRulesOrEdits : {L C : Type 0} → (L → Form) → (C → Values → Graph → Bool → Type 0) → List (Rewrite L C) → (Graph → Graph → Type 0) → Graph → Graph → Type 0
AreFromRulesOrEdits form holds rules after g h =
    (n : ℕ) → length g.image.entries ≤ n → n < length h.image.entries → step_at h.image.entries n ≡ explicit → ComesFromRules form holds rules g h n ⊎ ComesFromEdits after g h n
