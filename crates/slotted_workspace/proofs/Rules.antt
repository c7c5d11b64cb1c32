-- What reading the two texts of a rule leaves of the graph.
use Rattle.std.proofs.Common.{◌≡◌, ◌↔◌, ◌∙◌, ℕ, List, Result, Ok, Err, IfOk, IsErrOf, ap, refl, sym, subst}
use Rattle.std.specs.Prelude.{Bool, true, false, IsTrue, None, Option}
use Rattle.slotted_slots.specs.declared.error.Error.{Error}
use Rattle.slotted_slots.specs.declared.error.Error.TheVariants.{Failed}
use Rattle.slotted_slots.specs.Syntax.{Element}
use Rattle.slotted_nodes.specs.Form.{Form}
use Rattle.slotted_languages.proofs.HandedOn.{error_or}
use Rattle.slotted_patterns.specs.Known.{HasKnownNames}
use Rattle.slotted_patterns.specs.View.{tree_of}
use Rattle.slotted_patterns.specs.declared.pattern.Pattern.{Pattern}
use Rattle.slotted_rule_patterns.specs.Variables.{first_lacking, has_substitution}
use Rattle.slotted_operations.specs.Graph.{Graph, OnlyReads}
use Rattle.slotted_operations.specs.Reads.{AnswersPattern}
use Rattle.slotted_explain.proofs.CallerLemmas.{reads_twice}
use Rattle.slotted_graph.proofs.KnownPatterns.{pattern-later}
use Rattle.slotted_rules.specs.Reading.{first_unread, tree_reads}
use Rattle.slotted_rules.specs.Written.{CanBeSearched, IsRefusedRule, IsRule, ReadsAs, left_refused, right_refused, rule_refused}
use Rattle.slotted_rules.specs.declared.condition_tree.CondTree.{CondTree}
use Rattle.slotted_rules.specs.declared.rewrite.Rewrite.{Rewrite}
use Rattle.slotted_commands.proofs.Steps.{sound_graph}
use Rattle.slotted_workspace.specs.Asked.{ReadsRule, RuleRefused, texts_refused}
use Rattle.slotted_workspace.specs.Asked as asked

module _ {L : Type 0} (form : L → Form) (read : List Element → Option Form) (g h : Graph) (left right : List ℕ) (reads : OnlyReads g h) where
  -- the left text was refused
  pub left-refused : {condition : CondTree} (e : Error) → (IsErrOf {T = Pattern L} (Err e) Failed ↔ IsTrue g.failed) → (IsTrue g.failed → h ≡ g) → AnswersPattern form read g h left (Err e) → RuleRefused form read g h left right condition e
  left-refused {condition} e failed stays answer = by g.failed refl
    where
      by : (b : Bool) → g.failed ≡ b → RuleRefused form read g h left right condition e
      by true f = asked.RuleRefused.had_failed (f, stays f, ap (error_or Failed) (failed.1 f))
      by false well = texts_refused well (left_refused (answer well)) reads

-- the left text read as the pattern p
module _ {L : Type 0} (form : L → Form) (read : List Element → Option Form) (t u v : Graph) (left right : List ℕ) (p : Pattern L) (one : OnlyReads t u) (two : OnlyReads u v) (failed : IsErrOf {T = Pattern L} {E = Error} (Ok p) Failed ↔ IsTrue t.failed) (first : AnswersPattern form read t u left (Ok p)) where
  well : t.failed ≡ false
  well = sound_graph t.failed (Ok p) p refl failed.1

  still : u.failed ≡ false
  still = one.failed ∙ well

  pub right-refused : {condition : CondTree} (e : Error) → AnswersPattern form read u v right (Err e) → RuleRefused form read t v left right condition e
  right-refused e second = texts_refused well (right_refused u.table p (first well) (second still)) (reads_twice t u v one two)

  -- and the right one as the pattern q
  module _ (q : Pattern L) (second : AnswersPattern form read u v right (Ok q)) where
    pub reads-rule : (name : List ℕ) (condition : CondTree) (r : Rewrite L CondTree) → IsRule r name p q condition → first_unread (tree_of form p) (tree_reads condition) ≡ None → ReadsRule form read t v name left right condition r
    reads-rule name condition r is none = record {
      well = well;
      named = is.name_is;
      conditioned = is.condition_is;
      are = record {
        between = u.table;
        left_read = subst (λ x. ReadsAs form read t.table u.table left (Ok x)) (sym is.left_is) (first well);
        right_read = subst (λ x. ReadsAs form read u.table v.table right (Ok x)) (sym is.right_is) (second still);
      };
      asked = ap (λ x. first_unread (tree_of form x) (tree_reads condition)) is.left_is ∙ none;
      only = reads_twice t u v one two;
    }

    pub rule-read : (o : Result (Rewrite L CondTree) Error) (name : List ℕ) (condition : CondTree) → IfOk o (λ r. IsRule r name p q condition) →
        IfOk o (λ r. first_unread (tree_of form p) (tree_reads condition) ≡ None) → IfOk o (ReadsRule form read t v name left right condition)
    rule-read (Err e) name condition is none = tt
    rule-read (Ok r) name condition is none = reads-rule name condition r is none

    pub rule-refused : {condition : CondTree} (e : Error) → IsRefusedRule (tree_of form p) (tree_of form q) (tree_reads condition) e → RuleRefused form read t v left right condition e
    rule-refused e r = texts_refused well (rule_refused u.table p q (first well) (second still) r) (reads_twice t u v one two)

    pub searchable : HasKnownNames u.table (tree_of form p) → HasKnownNames v.table (tree_of form q) → (o : Result (Rewrite L CondTree) Error) (name : List ℕ) (condition : CondTree) → IfOk o (λ r. IsRule r name p q condition) → IfOk o (λ r. has_substitution (tree_of form p) ≡ false) → IfOk o (λ r. first_lacking (tree_of form q) (tree_of form p) ≡ None) → IfOk o (CanBeSearched form v.table)
    searchable known_p known_q (Err e) name condition is none all = tt
    searchable known_p known_q (Ok r) name condition is none all = record {
      left_known = subst (λ x. HasKnownNames v.table (tree_of form x)) (sym is.left_is) (pattern-later u.table v.table two.more (tree_of form p) known_p);
      right_known = subst (λ x. HasKnownNames v.table (tree_of form x)) (sym is.right_is) known_q;
      none_replaced = ap (λ x. has_substitution (tree_of form x)) is.left_is ∙ none;
      none_lacking = (λ i. first_lacking (tree_of form (is.right_is i)) (tree_of form (is.left_is i))) ∙ all;
    }
