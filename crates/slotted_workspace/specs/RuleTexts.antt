-- Rules that are kept by their texts.
--     IsConditionFor c slot x        the tree x asks the condition c about this slot
--     ReadsCondition g h c x         from g to h the slot of c was named, and x asks c about it
--     IsBothOf a b x                 the tree x asks a, and then b
--     AsksAll t x cs u               the tree x asks all of the conditions, in order; their slots were named one after another, from the table t to u
--     ReadsConditional ..            a rule of two texts and conditions; the slots of the conditions are named first
--     ReadsRules form read y g h a rs    what the rules are kept as that a text asks for, sparing or as they are: one, or else two, the second of which
--                                    goes back and has `<` behind its name
--     KeepsRules form read s v text  the rules of the text come last
--     ConditionRefused g h e         a condition was refused
--     ConditionalRefused ..          a condition was refused, or a rule with the conditions
--     RulesRefused ..                so was one of the rules of a text, or there was no memory to keep them. None was kept
--     ReadsText, TextRefused         the rules of a text, or why there are none
--     RefusesText s v text e         the text was refused, and the graph alone may have changed
use Rattle.std.specs.Prelude.{◌≡◌, ◌⊎◌, ℕ, List, [], ◌∷◌, ◌++◌, Bool, Box, Option, true, false, codes, string_bytes}
use Rattle.std.specs.declared.alloc.Global.{Global}
use Rattle.slotted_slots.specs.declared.error.Error.{Error}
use Rattle.slotted_slots.specs.declared.error.Error.TheVariants.{OutOfMemory}
use Rattle.slotted_slots.specs.Naming.{IsNamingRefusal}
use Rattle.slotted_slots.specs.Syntax.{Element}
use Rattle.slotted_slots.specs.Table.{Table, gives, named_of}
use Rattle.slotted_nodes.specs.Form.{Form}
use Rattle.slotted_operations.specs.Graph.{Graph, OnlyReads}
use Rattle.slotted_rule_texts.specs.Asked.{Condition, Rule, asks, rule_asked}
use Rattle.slotted_rule_texts.specs.Told.{IsRefused}
use Rattle.slotted_rules.specs.declared.condition.SlotFreeIn.{SlotFreeIn}
use Rattle.slotted_rules.specs.declared.condition_tree.CondTree.{CondTree}
use Rattle.slotted_rules.specs.declared.condition_tree.CondTree.TheVariants as tree
use Rattle.slotted_rules.specs.declared.rewrite.Rewrite.{Rewrite}
use Rattle.slotted_workspace.specs.Asked.{ChangesGraph, HadFailed, ReadsRule, RuleRefused}
use Rattle.slotted_workspace.specs.Spaces.{Space, WrittenRule, kept_as}
use Rattle.slotted_workspace.specs.declared.error.WorkspaceError.{WorkspaceError}
use Rattle.slotted_workspace.specs.declared.error.WorkspaceError.TheVariants.{UnknownHandle, RuleText}
use Rattle.slotted_workspace.specs.declared.error.WorkspaceError.TheVariants as refused

pub data IsConditionFor (c : Condition) (slot : ℕ) (x : CondTree) : Type 0 where
  lacks : (a : SlotFreeIn) → x ≡ tree.SlotFreeIn a → c.occurs ≡ false → a.slot ≡ slot → string_bytes a.variable ≡ c.variable → IsConditionFor c slot x
  occurs : (a : SlotFreeIn) (b : Box CondTree Global) → x ≡ tree.Not b → b.value ≡ tree.SlotFreeIn a → c.occurs ≡ true → a.slot ≡ slot → string_bytes a.variable ≡ c.variable → IsConditionFor c slot x

-- the slot of the condition is named first
pub record ReadsCondition (g h : Graph) (c : Condition) (x : CondTree) : Type 0 where
  pub well : g.failed ≡ false
  pub slot : ℕ
  pub named : named_of g.table c.slot ≡ gives slot h.table
  pub is : IsConditionFor c slot x

pub record IsBothOf (first second x : CondTree) : Type 0 where
  pub left : Box CondTree Global
  pub right : Box CondTree Global
  pub is : x ≡ tree.And left right
  pub left_is : left.value ≡ first
  pub right_is : right.value ≡ second

pub data AsksAll : Table → CondTree → List Condition → Table → Type 0 where
  asks_none : (t : Table) → AsksAll t tree.Always [] t
  asks_more : (t u v : Table) (a b : Box CondTree Global) (cs : List Condition) (c : Condition) (slot : ℕ) → AsksAll t a.value cs u → named_of u c.slot ≡ gives slot v → IsConditionFor c slot b.value →
      AsksAll t (tree.And a b) (cs ++ c ∷ []) v

pub record ReadsConditional {L : Type 0} (form : L → Form) (read : List Element → Option Form) (g h : Graph) (name left right : List ℕ) (cs : List Condition) (r : Rewrite L CondTree) : Type 0 where
  pub between : Graph
  pub condition : CondTree
  pub conditions : AsksAll g.table condition cs between.table
  pub names : OnlyReads g between
  pub reads : ReadsRule form read between h name left right condition r

abbrev pub ConditionRefused : Graph → Graph → Error → Type 0
ConditionRefused g h e = HadFailed g h e ⊎ ((g.failed ≡ false) × OnlyReads g h × IsNamingRefusal e)

pub data ConditionalRefused {L : Type 0} (form : L → Form) (read : List Element → Option Form) (g h : Graph) (left right : List ℕ) (cs : List Condition) (e : Error) : Type 0 where
  condition_refused : ConditionRefused g h e → ConditionalRefused form read g h left right cs e
  rule_refused : (between : Graph) (condition : CondTree) → AsksAll g.table condition cs between.table → OnlyReads g between → RuleRefused form read between h left right condition e → ConditionalRefused form read g h left right cs e

-- back from right to left
abbrev pub name_back : List ℕ → List ℕ
name_back name = name ++ codes "<"

pub data ReadsRules {L : Type 0} (form : L → Form) (read : List Element → Option Form) (sparing : Bool) (g h : Graph) (a : Rule) (rules : List WrittenRule) : Type 0 where
  one_way : (r : Rewrite L CondTree) → a.both ≡ false → rules ≡ kept_as form sparing r ∷ [] → ReadsConditional form read g h a.name a.left a.right a.conditions r → ReadsRules form read sparing g h a rules
  both_ways : (r q : Rewrite L CondTree) (between : Graph) → a.both ≡ true → rules ≡ kept_as form sparing r ∷ kept_as form sparing q ∷ [] → ReadsConditional form read g between a.name a.left a.right a.conditions r →
      ReadsConditional form read between h (name_back a.name) a.right a.left a.conditions q → ReadsRules form read sparing g h a rules

pub data RulesRefused {L : Type 0} (form : L → Form) (read : List Element → Option Form) (g h : Graph) (a : Rule) (e : Error) : Type 0 where
  first_refused : ConditionalRefused form read g h a.left a.right a.conditions e → RulesRefused form read g h a e
  back_refused : (r : Rewrite L CondTree) (between : Graph) → a.both ≡ true → ReadsConditional form read g between a.name a.left a.right a.conditions r →
      ConditionalRefused form read between h a.right a.left a.conditions e → RulesRefused form read g h a e
  no_memory : OnlyReads g h → e ≡ OutOfMemory → RulesRefused form read g h a e

pub record ReadsText {L : Type 0} (form : L → Form) (read : List Element → Option Form) (sparing : Bool) (g h : Graph) (text : List ℕ) (rules : List WrittenRule) : Type 0 where
  pub asked : Rule
  pub is_asked : rule_asked text ≡ asks asked
  pub reads : ReadsRules form read sparing g h asked rules

abbrev pub TextRefused : {L : Type 0} → (L → Form) → (List Element → Option Form) → Graph → Graph → List ℕ → WorkspaceError → Type 0
TextRefused form read g h text UnknownHandle = ⊥
TextRefused form read g h text (RuleText e) = IsRefused (rule_asked text) e × (h ≡ g)
TextRefused form read g h text (refused.Graph e) = (a : Rule) × (rule_asked text ≡ asks a) × RulesRefused form read g h a e

pub record KeepsRules {L : Type 0} (form : L → Form) (read : List Element → Option Form) (s v : Space) (text : List ℕ) : Type 0 where
  pub rules : List WrittenRule
  pub reads : ReadsText form read s.sparing s.graph v.graph text rules
  pub rest : v ≡ record s { graph = v.graph; rules = s.rules ++ rules }

abbrev pub RefusesText : {L : Type 0} → (L → Form) → (List Element → Option Form) → Space → Space → List ℕ → WorkspaceError → Type 0
RefusesText form read s v text e = TextRefused form read s.graph v.graph text e × ChangesGraph s v
