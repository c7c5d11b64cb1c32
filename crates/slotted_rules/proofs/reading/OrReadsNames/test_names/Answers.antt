use Rattle.std.proofs.Common.{◌≡◌, ◌++◌}
use Rattle.std.specs.Prelude.{None}
use Rattle.std.proofs.lemmas.Result.{IfOk-weaker, IfErr-weaker}
use Rattle.slotted_languages.proofs.HandedOn.{handed_err}
use Rattle.slotted_patterns.specs.View.{tree_of}
use Rattle.slotted_rules.specs.Reading.{first_unread, IsUnreadOf}
use Rattle.slotted_rules.proofs.ReadNames.{none-unread, unread-first, unread-second}
use Rattle.slotted_rules.proofs.reading.OrReadsNames.test_names.Goals as goal

pub returns-in_err-test_names-clause-err : goal.returns-in_err-test_names-clause-err
returns-in_err-test_names-clause-err g c =
    let t = tree_of g.L.LanguageChildren.form c.args.left.now in
    let first = g.X.ReadsNames.reads c.args.self.now.first in
    let second = g.Y.ReadsNames.reads c.args.self.now.second in
    let e = c.in_err-test_names.field-0.0 in
    handed_err c.from_residual.result e c.from_residual.ensures.1 (IsUnreadOf t (first ++ second)) (unread-first t first second e c.in_err-test_names.ensures.err)

pub returns-clause-ok : goal.returns-clause-ok
returns-clause-ok g c =
    let t = tree_of g.L.LanguageChildren.form c.args.left.now in
    let first = g.X.ReadsNames.reads c.args.self.now.first in
    let second = g.Y.ReadsNames.reads c.args.self.now.second in
    IfOk-weaker c.test_names-2.result (λ x. first_unread t second ≡ None) _ (λ x none. none-unread t first second c.in_ok-test_names.ensures.ok none)
    c.test_names-2.ensures.ok

pub returns-clause-err : goal.returns-clause-err
returns-clause-err g c =
    let t = tree_of g.L.LanguageChildren.form c.args.left.now in
    let first = g.X.ReadsNames.reads c.args.self.now.first in
    let second = g.Y.ReadsNames.reads c.args.self.now.second in
    IfErr-weaker c.test_names-2.result (IsUnreadOf t second) _ (λ e u. unread-second t first second e c.in_ok-test_names.ensures.ok u) c.test_names-2.ensures.err
