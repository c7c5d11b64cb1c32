use Rattle.std.proofs.Common.{◌≡◌, ◌++◌, ◌∙◌, IfOk, IfErr, ap, subst, sym}
use Rattle.std.specs.Prelude.{None}
use Rattle.std.proofs.lemmas.Result.{IfOk-weaker, IfErr-weaker}
use Rattle.slotted_languages.proofs.HandedOn.{handed_err}
use Rattle.slotted_patterns.specs.View.{tree_of}
use Rattle.slotted_rules.specs.Reading.{first_unread, tree_reads, IsUnreadOf}
use Rattle.slotted_rules.proofs.ReadNames.{and-reads, none-unread, or-reads, unread-first, unread-second}
use Rattle.slotted_rules.proofs.condition_tree.CondTree.+test_tree.Goals as goal

pub returns-in_err-test_tree-in-Or-clause-err : goal.returns-in_err-test_tree-in-Or-clause-err
returns-in_err-test_tree-in-Or-clause-err g m c =
    let t = tree_of g.L.LanguageChildren.form c.args.left.now in
    let first = tree_reads c.in-Or.first.value in
    let second = tree_reads c.in-Or.second.value in
    let is : tree_reads c.args.self.now ≡ first ++ second = ap tree_reads c.in-Or.is ∙ or-reads c.in-Or.first c.in-Or.second in
    let e = c.in_err-test_tree-in-Or.field-0.0 in
    let unread : IsUnreadOf t first e = subst (λ d. IsUnreadOf t (tree_reads d) e) c.deref.ensures c.in_err-test_tree-in-Or.ensures.err in
    subst (λ d. IfErr c.from_residual.result (IsUnreadOf t d)) (sym is)
    (handed_err c.from_residual.result e c.from_residual.ensures.1 (IsUnreadOf t (first ++ second)) (unread-first t first second e unread))

pub returns-in_ok-test_tree-in-Or-clause-ok : goal.returns-in_ok-test_tree-in-Or-clause-ok
returns-in_ok-test_tree-in-Or-clause-ok g m c =
    let t = tree_of g.L.LanguageChildren.form c.args.left.now in
    let first = tree_reads c.in-Or.first.value in
    let second = tree_reads c.in-Or.second.value in
    let is : tree_reads c.args.self.now ≡ first ++ second = ap tree_reads c.in-Or.is ∙ or-reads c.in-Or.first c.in-Or.second in
    let r = c.test_tree-in-Or.result in
    let none : first_unread t first ≡ None = subst (λ d. first_unread t (tree_reads d) ≡ None) c.deref.ensures c.in_ok-test_tree-in-Or.ensures.ok in
    let other : IfOk r (λ x. first_unread t second ≡ None) = subst (λ d. IfOk r (λ x. first_unread t (tree_reads d) ≡ None)) c.deref-in-Or.ensures c.test_tree-in-Or.ensures.ok in
    subst (λ d. IfOk r (λ x. first_unread t d ≡ None)) (sym is)
    (IfOk-weaker r (λ x. first_unread t second ≡ None) (λ x. first_unread t (first ++ second) ≡ None) (λ x. none-unread t first second none) other)

pub returns-in_ok-test_tree-in-Or-clause-err : goal.returns-in_ok-test_tree-in-Or-clause-err
returns-in_ok-test_tree-in-Or-clause-err g m c =
    let t = tree_of g.L.LanguageChildren.form c.args.left.now in
    let first = tree_reads c.in-Or.first.value in
    let second = tree_reads c.in-Or.second.value in
    let is : tree_reads c.args.self.now ≡ first ++ second = ap tree_reads c.in-Or.is ∙ or-reads c.in-Or.first c.in-Or.second in
    let r = c.test_tree-in-Or.result in
    let none : first_unread t first ≡ None = subst (λ d. first_unread t (tree_reads d) ≡ None) c.deref.ensures c.in_ok-test_tree-in-Or.ensures.ok in
    let other : IfErr r (IsUnreadOf t second) = subst (λ d. IfErr r (IsUnreadOf t (tree_reads d))) c.deref-in-Or.ensures c.test_tree-in-Or.ensures.err in
    subst (λ d. IfErr r (IsUnreadOf t d)) (sym is)
    (IfErr-weaker r (IsUnreadOf t second) (IsUnreadOf t (first ++ second)) (λ e u. unread-second t first second e none u) other)

pub returns-in_err-test_tree-in-And-clause-err : goal.returns-in_err-test_tree-in-And-clause-err
returns-in_err-test_tree-in-And-clause-err g m c =
    let t = tree_of g.L.LanguageChildren.form c.args.left.now in
    let first = tree_reads c.in-And.first.value in
    let second = tree_reads c.in-And.second.value in
    let is : tree_reads c.args.self.now ≡ first ++ second = ap tree_reads c.in-And.is ∙ and-reads c.in-And.first c.in-And.second in
    let e = c.in_err-test_tree-in-And.field-0.0 in
    let unread : IsUnreadOf t first e = subst (λ d. IsUnreadOf t (tree_reads d) e) c.deref-in-And.ensures c.in_err-test_tree-in-And.ensures.err in
    subst (λ d. IfErr c.from_residual-in_err-test_tree-in-And.result (IsUnreadOf t d)) (sym is)
    (handed_err c.from_residual-in_err-test_tree-in-And.result e c.from_residual-in_err-test_tree-in-And.ensures.1 (IsUnreadOf t (first ++ second)) (unread-first t first second e unread))

pub returns-in_ok-test_tree-in-And-clause-ok : goal.returns-in_ok-test_tree-in-And-clause-ok
returns-in_ok-test_tree-in-And-clause-ok g m c =
    let t = tree_of g.L.LanguageChildren.form c.args.left.now in
    let first = tree_reads c.in-And.first.value in
    let second = tree_reads c.in-And.second.value in
    let is : tree_reads c.args.self.now ≡ first ++ second = ap tree_reads c.in-And.is ∙ and-reads c.in-And.first c.in-And.second in
    let r = c.test_tree-in-And-2.result in
    let none : first_unread t first ≡ None = subst (λ d. first_unread t (tree_reads d) ≡ None) c.deref-in-And.ensures c.in_ok-test_tree-in-And.ensures.ok in
    let other : IfOk r (λ x. first_unread t second ≡ None) = subst (λ d. IfOk r (λ x. first_unread t (tree_reads d) ≡ None)) c.deref-in-And-2.ensures c.test_tree-in-And-2.ensures.ok in
    subst (λ d. IfOk r (λ x. first_unread t d ≡ None)) (sym is)
    (IfOk-weaker r (λ x. first_unread t second ≡ None) (λ x. first_unread t (first ++ second) ≡ None) (λ x. none-unread t first second none) other)

pub returns-in_ok-test_tree-in-And-clause-err : goal.returns-in_ok-test_tree-in-And-clause-err
returns-in_ok-test_tree-in-And-clause-err g m c =
    let t = tree_of g.L.LanguageChildren.form c.args.left.now in
    let first = tree_reads c.in-And.first.value in
    let second = tree_reads c.in-And.second.value in
    let is : tree_reads c.args.self.now ≡ first ++ second = ap tree_reads c.in-And.is ∙ and-reads c.in-And.first c.in-And.second in
    let r = c.test_tree-in-And-2.result in
    let none : first_unread t first ≡ None = subst (λ d. first_unread t (tree_reads d) ≡ None) c.deref-in-And.ensures c.in_ok-test_tree-in-And.ensures.ok in
    let other : IfErr r (IsUnreadOf t second) = subst (λ d. IfErr r (IsUnreadOf t (tree_reads d))) c.deref-in-And-2.ensures c.test_tree-in-And-2.ensures.err in
    subst (λ d. IfErr r (IsUnreadOf t d)) (sym is)
    (IfErr-weaker r (IsUnreadOf t second) (IsUnreadOf t (first ++ second)) (λ e u. unread-second t first second e none u) other)
