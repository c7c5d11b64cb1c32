use Rattle.std.proofs.Common.{sym, ◌∙◌, inr, refl}
use Rattle.std.proofs.lemmas.Bool.{false≢true}
use Rattle.std.proofs.lemmas.Result.{err_from_is_err_and}
use Rattle.slotted_explain.specs.Nodes.{to_applied}
use Rattle.slotted_commands.specs.Commands.{compares}
use Rattle.slotted_commands.specs.Sessions.{are_different, are_equal}
use Rattle.slotted_commands.proofs.Comparing.{found_equal, found_different}
use Rattle.slotted_commands.proofs.Steps.{compares_says}
use Rattle.slotted_commands.proofs.session.compare.Goals as goal

pub returns-in_err-left : goal.returns-in_err-left
returns-in_err-left g c =
    let p = err_from_is_err_and c.from_residual.result c.from_residual.ensures.1 in
    rw (p.1, p.2) (c.in_err-left.ensures.err (compares c.args.left.now c.args.right.now) tt refl refl)

pub eq-requires-clause-left : goal.eq-requires-clause-left
eq-requires-clause-left g c = inr c.in_ok-left.ensures.ok.left_valid

pub eq-requires-clause-right : goal.eq-requires-clause-right
eq-requires-clause-right g c = inr c.in_ok-left.ensures.ok.right_valid

pub returns-then-branch : goal.returns-then-branch
returns-then-branch g c =
    let e = c.in_ok-eq.ensures in
    let both = c.in_ok-left.ensures.ok in
    let a = to_applied c.in_ok-left.left in
    let b = to_applied c.in_ok-left.right in
    let yes = c.if-branch.true in
    compares_says g.L.LanguageChildren.read g.L.Printable.written c.args.graph.now c.look_up_both.new.graph c.args.left.now c.args.right.now c.in_ok-left.left c.in_ok-left.right both _
    (are_equal (found_equal c.look_up_both.new.graph both.first both.second a b both.left_valid both.right_valid both.left_equal both.right_equal c.in_ok-eq.field-0 yes (e.found.0 yes) e.filled))

pub returns : goal.returns
returns g c =
    let e = c.in_ok-eq.ensures in
    let both = c.in_ok-left.ensures.ok in
    let a = to_applied c.in_ok-left.left in
    let b = to_applied c.in_ok-left.right in
    let no = c.if-branch.false in
    compares_says g.L.LanguageChildren.read g.L.Printable.written c.args.graph.now c.look_up_both.new.graph c.args.left.now c.args.right.now c.in_ok-left.left c.in_ok-left.right both _
    (are_different (found_different c.look_up_both.new.graph both.first both.second a b both.left_valid both.right_valid both.left_equal both.right_equal c.in_ok-eq.field-0 no
    (λ h. false≢true (sym no ∙ e.found.1 h)) e.complete_equal e.terms e.whole))
