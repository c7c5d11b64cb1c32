-- The texts are read one after the other.
use Rattle.std.proofs.Common.{◌≡◌, ◌∙◌, Ok, ap, sym, subst}
use Rattle.std.specs.Prelude.{[], None, false}
use Rattle.std.proofs.lemmas.Result.{IfOk-weaker, IfErr-weaker}
use Rattle.slotted_lists.proofs.Results.{IfOk-three}
use Rattle.slotted_languages.proofs.HandedOn.{handed_err}
use Rattle.slotted_patterns.specs.Known.{HasKnownNames}
use Rattle.slotted_patterns.specs.View.{tree_of}
use Rattle.slotted_rule_patterns.specs.Variables.{first_lacking, has_substitution}
use Rattle.slotted_rules.specs.Written.{CanBeSearched, IsRule, IsRefusedRule, ReadsAs, right_refused, rule_refused}
use Rattle.slotted_graph.proofs.KnownPatterns.{pattern-later}
use Rattle.slotted_lines.specs.AnsweredIn.{IsRuleRead, IsRuleRefused, texts_refused}
use Rattle.slotted_graph.proofs.CallerLemmas.{reads_twice}
use Rattle.slotted_lines.proofs.ReadTexts.{unfailed}
use Rattle.slotted_lines.proofs.rules.read_rule.Goals as goal

pub returns-in_err-made-clause-err : goal.returns-in_err-made-clause-err
returns-in_err-made-clause-err g c =
    let form = g.L.LanguageChildren.form in
    let read = g.L.LanguageChildren.read in
    let t = c.args.graph.now in
    let u = c.parse_pattern.new.self in
    let v = c.parse_pattern-2.new.self in
    let p = c.in_ok-searched.searched in
    let e = c.in_err-made.field-0.0 in
    let well = unfailed p t.failed c.in_ok-searched.ensures.failed in
    let still = c.in_ok-searched.ensures.reads.failed ∙ well in
    handed_err c.from_residual-in_err-made.result e c.from_residual-in_err-made.ensures.1 (IsRuleRefused form read t v c.args.left.now c.args.right.now)
    (texts_refused well (right_refused u.table p (c.in_ok-searched.ensures.answer well) (c.in_err-made.ensures.answer still)) (reads_twice t u v c.in_ok-searched.ensures.reads c.in_err-made.ensures.reads))

pub returns-clause-ok : goal.returns-clause-ok
returns-clause-ok g c =
    let form = g.L.LanguageChildren.form in
    let read = g.L.LanguageChildren.read in
    let t = c.args.graph.now in
    let u = c.parse_pattern.new.self in
    let v = c.parse_pattern-2.new.self in
    let p = c.in_ok-searched.searched in
    let well = unfailed p t.failed c.in_ok-searched.ensures.failed in
    let still = c.in_ok-searched.ensures.reads.failed ∙ well in
    IfOk-weaker c.from_patterns.result (λ r. IsRule r c.args.name.now p c.in_ok-made.made (record {})) (IsRuleRead form read t v c.args.name.now c.args.left.now c.args.right.now)
    (λ r is. record {
      sound = well;
      named = is.name_is;
      are = record {
        between = u.table;
        left_read = subst (λ x. ReadsAs form read t.table u.table c.args.left.now (Ok x)) (sym is.left_is) (c.in_ok-searched.ensures.answer well);
        right_read = subst (λ x. ReadsAs form read u.table v.table c.args.right.now (Ok x)) (sym is.right_is) (c.in_ok-made.ensures.answer still);
      };
      only = reads_twice t u v c.in_ok-searched.ensures.reads c.in_ok-made.ensures.reads;
    }) c.from_patterns.ensures.rule

pub returns-clause-searched : goal.returns-clause-searched
returns-clause-searched g c =
    let form = g.L.LanguageChildren.form in
    let u = c.parse_pattern.new.self in
    let v = c.parse_pattern-2.new.self in
    let p = c.in_ok-searched.searched in
    let q = c.in_ok-made.made in
    let left : HasKnownNames v.table (tree_of form p) = pattern-later u.table v.table c.in_ok-made.ensures.reads.more (tree_of form p) c.in_ok-searched.ensures.known in
    IfOk-three c.from_patterns.result (λ r. IsRule r c.args.name.now p q (record {})) (λ r. has_substitution (tree_of form p) ≡ false) (λ r. first_lacking (tree_of form q) (tree_of form p) ≡ None) (CanBeSearched form v.table)
    (λ r is none all. record {
      left_known = subst (λ x. HasKnownNames v.table (tree_of form x)) (sym is.left_is) left;
      right_known = subst (λ x. HasKnownNames v.table (tree_of form x)) (sym is.right_is) c.in_ok-made.ensures.known;
      none_replaced = ap (λ x. has_substitution (tree_of form x)) is.left_is ∙ none;
      none_lacking = (λ i. first_lacking (tree_of form (is.right_is i)) (tree_of form (is.left_is i))) ∙ all;
    }) c.from_patterns.ensures.rule c.from_patterns.ensures.searched c.from_patterns.ensures.known

pub returns-clause-err : goal.returns-clause-err
returns-clause-err g c =
    let form = g.L.LanguageChildren.form in
    let t = c.args.graph.now in
    let u = c.parse_pattern.new.self in
    let v = c.parse_pattern-2.new.self in
    let p = c.in_ok-searched.searched in
    let q = c.in_ok-made.made in
    let well = unfailed p t.failed c.in_ok-searched.ensures.failed in
    let still = c.in_ok-searched.ensures.reads.failed ∙ well in
    IfErr-weaker c.from_patterns.result (IsRefusedRule (tree_of form p) (tree_of form q) []) (IsRuleRefused form g.L.LanguageChildren.read t v c.args.left.now c.args.right.now)
    (λ e r. texts_refused well (rule_refused u.table p q (c.in_ok-searched.ensures.answer well) (c.in_ok-made.ensures.answer still) r) (reads_twice t u v c.in_ok-searched.ensures.reads c.in_ok-made.ensures.reads)) c.from_patterns.ensures.err
