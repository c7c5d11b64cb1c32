-- The texts are read one after the other.
use Rattle.std.proofs.Common.{◌≡◌, ◌∙◌, Ok, ap, sym, subst}
use Rattle.std.specs.Prelude.{None, false}
use Rattle.std.proofs.lemmas.Result.{IfOk-weaker, IfErr-weaker}
use Rattle.slotted_lists.proofs.Results.{IfOk-both, IfOk-three}
use Rattle.slotted_languages.proofs.HandedOn.{handed_err}
use Rattle.slotted_patterns.specs.Known.{HasKnownNames}
use Rattle.slotted_patterns.specs.View.{tree_of}
use Rattle.slotted_rule_patterns.specs.Variables.{first_lacking, has_substitution}
use Rattle.slotted_rules.specs.Reading.{first_unread}
use Rattle.slotted_rules.specs.Written.{AreRefused, CanBeSearched, IsRule, IsRefusedRule, ReadsAs, right_refused, rule_refused}
use Rattle.slotted_graph.proofs.KnownPatterns.{pattern-later}
use Rattle.slotted_rules.proofs.rewrite.Rewrite.new_if.Goals as goal

pub returns-in_err-made-clause-err : goal.returns-in_err-made-clause-err
returns-in_err-made-clause-err g c =
    let form = g.L.LanguageChildren.form in
    let read = g.L.LanguageChildren.read in
    let t = c.args.table.now in
    let u = c.parse.new.table in
    let v = c.parse-2.new.table in
    let e = c.in_err-made.field-0.0 in
    handed_err c.from_residual-in_err-made.result e c.from_residual-in_err-made.ensures.1 (AreRefused form read t v c.args.left.now c.args.right.now (g.C.ReadsNames.reads c.args.condition))
    (right_refused u c.in_ok-searched.searched c.in_ok-searched.ensures.answer c.in_err-made.ensures.answer)

pub returns-clause-read : goal.returns-clause-read
returns-clause-read g c =
    let form = g.L.LanguageChildren.form in
    let read = g.L.LanguageChildren.read in
    let t = c.args.table.now in
    let u = c.parse.new.table in
    let v = c.parse-2.new.table in
    IfOk-weaker c.from_patterns.result (λ r. IsRule r c.args.name.now c.in_ok-searched.searched c.in_ok-made.made c.args.condition) _
    (λ r is. record {
      between = u;
      left_read = subst (λ p. ReadsAs form read t u c.args.left.now (Ok p)) (sym is.left_is) c.in_ok-searched.ensures.answer;
      right_read = subst (λ p. ReadsAs form read u v c.args.right.now (Ok p)) (sym is.right_is) c.in_ok-made.ensures.answer;
    }) c.from_patterns.ensures.rule

pub returns-clause-searched : goal.returns-clause-searched
returns-clause-searched g c =
    let form = g.L.LanguageChildren.form in
    let v = c.parse-2.new.table in
    let p = c.in_ok-searched.searched in
    let q = c.in_ok-made.made in
    let left : HasKnownNames v (tree_of form p) = pattern-later c.parse.new.table v c.parse-2.ensures.more (tree_of form p) c.in_ok-searched.ensures.known in
    IfOk-three c.from_patterns.result (λ r. IsRule r c.args.name.now p q c.args.condition) (λ r. has_substitution (tree_of form p) ≡ false) (λ r. first_lacking (tree_of form q) (tree_of form p) ≡ None) (CanBeSearched form v)
    (λ r is none all. record {
      left_known = subst (λ x. HasKnownNames v (tree_of form x)) (sym is.left_is) left;
      right_known = subst (λ x. HasKnownNames v (tree_of form x)) (sym is.right_is) c.in_ok-made.ensures.known;
      none_replaced = ap (λ x. has_substitution (tree_of form x)) is.left_is ∙ none;
      none_lacking = (λ i. first_lacking (tree_of form (is.right_is i)) (tree_of form (is.left_is i))) ∙ all;
    }) c.from_patterns.ensures.rule c.from_patterns.ensures.searched c.from_patterns.ensures.known

pub returns-clause-err : goal.returns-clause-err
returns-clause-err g c =
    let form = g.L.LanguageChildren.form in
    let read = g.L.LanguageChildren.read in
    let u = c.parse.new.table in
    IfErr-weaker c.from_patterns.result (IsRefusedRule (tree_of form c.in_ok-searched.searched) (tree_of form c.in_ok-made.made) (g.C.ReadsNames.reads c.args.condition)) _
    (λ e r. rule_refused u c.in_ok-searched.searched c.in_ok-made.made c.in_ok-searched.ensures.answer c.in_ok-made.ensures.answer r) c.from_patterns.ensures.err

pub returns-clause-asked : goal.returns-clause-asked
returns-clause-asked g c =
    let form = g.L.LanguageChildren.form in
    let names = g.C.ReadsNames.reads c.args.condition in
    let p = c.in_ok-searched.searched in
    IfOk-both c.from_patterns.result (λ r. IsRule r c.args.name.now p c.in_ok-made.made c.args.condition) (λ r. first_unread (tree_of form p) names ≡ None) (λ r. first_unread (tree_of form r.left) names ≡ None)
    (λ r is none. ap (λ x. first_unread (tree_of form x) names) is.left_is ∙ none) c.from_patterns.ensures.rule c.from_patterns.ensures.asked
