-- Rules that are written.
--     IsRule r name left right condition   the rule has these parts
--     IsRefusedRule left right names e     why no rule is made of two patterns and a condition that reads these names
--     CanBeSearched t r                    the table knows the names of both patterns, nothing is replaced on the left, and no variable stands on the
--                                          right alone
--     PassesTests form g r                 it does over a graph that has not failed, and no node of the patterns has 2^30 places
--     AreRead t v left right r             the patterns are what two texts read as, one after the other, from the table t to v
--     AreRefused t v left right names e    one of the texts is refused, or no rule is made of what they read as
use Rattle.std.specs.Prelude.{◌≡◌, ◌⊎◌, ℕ, List, Option, Some, None, Result, Ok, Err, true, false, string_bytes}
use Rattle.slotted_slots.specs.declared.error.Error.{Error}
use Rattle.slotted_slots.specs.declared.error.Error.TheVariants.{OutOfMemory, SubstInSearch}
use Rattle.slotted_slots.specs.Syntax.{Element}
use Rattle.slotted_slots.specs.Table.{Table}
use Rattle.slotted_nodes.specs.Form.{Form}
use Rattle.slotted_patterns.specs.declared.pattern.Pattern.{Pattern}
use Rattle.slotted_patterns.specs.Known.{HasKnownNames}
use Rattle.slotted_patterns.specs.Outcome.{Answers}
use Rattle.slotted_patterns.specs.Parsed.{TextReadsPattern}
use Rattle.slotted_patterns.specs.Tree.{PatternTree}
use Rattle.slotted_patterns.specs.View.{tree_of}
use Rattle.slotted_rule_patterns.specs.Variables.{first_lacking, has_substitution}
use Rattle.slotted_operations.specs.Graph.{Graph}
use Rattle.slotted_graph.specs.KnownPatterns.{HasSmallNodes}
use Rattle.slotted_rules.specs.Asking.{IsMissing}
use Rattle.slotted_rules.specs.Reading.{ReadName, first_unread, IsUnreadOf}
use Rattle.slotted_rules.specs.declared.rewrite.Rewrite.{Rewrite}

pub record IsRule {L C : Type 0} (r : Rewrite L C) (name : List ℕ) (left right : Pattern L) (condition : C) : Type 0 where
  pub name_is : string_bytes r.name ≡ name
  pub left_is : r.left ≡ left
  pub right_is : r.right ≡ right
  pub condition_is : r.condition ≡ condition

-- a substitution on the left, or else the first variable of the right that the left lacks, or else the first name of the condition that the
-- left lacks, or no memory
abbrev pub IsRefusedRule : PatternTree → PatternTree → List ReadName → Error → Type 0
IsRefusedRule left right names e =
    ((has_substitution left ≡ true) × (e ≡ SubstInSearch))
    ⊎ ((has_substitution left ≡ false) × ((v : List ℕ) × (first_lacking right left ≡ Some v) × IsMissing v e))
    ⊎ ((has_substitution left ≡ false) × (first_lacking right left ≡ None) × IsUnreadOf left names e)
    ⊎ ((has_substitution left ≡ false) × (first_lacking right left ≡ None) × (first_unread left names ≡ None) × (e ≡ OutOfMemory))

pub record CanBeSearched {L C : Type 0} (form : L → Form) (t : Table) (r : Rewrite L C) : Type 0 where
  pub left_known : HasKnownNames t (tree_of form r.left)
  pub right_known : HasKnownNames t (tree_of form r.right)
  pub none_replaced : has_substitution (tree_of form r.left) ≡ false
  pub none_lacking : first_lacking (tree_of form r.right) (tree_of form r.left) ≡ None

pub record PassesTests {L C : Type 0} (form : L → Form) (g : Graph) (r : Rewrite L C) : Type 0 where
  pub well : g.failed ≡ false
  pub searched : CanBeSearched form g.table r
  pub left_small : HasSmallNodes (tree_of form r.left)
  pub right_small : HasSmallNodes (tree_of form r.right)

-- the pattern is what the text reads as
abbrev pub ReadsAs : {L : Type 0} → (L → Form) → (List Element → Option Form) → Table → Table → List ℕ → Result (Pattern L) Error → Type 0
ReadsAs form read t u text r = Answers (tree_of form) (TextReadsPattern read t text u) r

pub record AreRead {L C : Type 0} (form : L → Form) (read : List Element → Option Form) (t v : Table) (left right : List ℕ) (r : Rewrite L C) : Type 0 where
  pub between : Table
  pub left_read : ReadsAs form read t between left (Ok r.left)
  pub right_read : ReadsAs form read between v right (Ok r.right)

-- the left text first, then the right one, and then the two patterns
pub data AreRefused {L : Type 0} (form : L → Form) (read : List Element → Option Form) (t v : Table) (left right : List ℕ) (names : List ReadName) (e : Error) : Type 0 where
  left_refused : ReadsAs form read t v left (Err e) → AreRefused form read t v left right names e
  right_refused : (u : Table) (p : Pattern L) → ReadsAs form read t u left (Ok p) → ReadsAs form read u v right (Err e) → AreRefused form read t v left right names e
  rule_refused : (u : Table) (p q : Pattern L) → ReadsAs form read t u left (Ok p) → ReadsAs form read u v right (Ok q) →
      IsRefusedRule (tree_of form p) (tree_of form q) names e → AreRefused form read t v left right names e
