use Rattle.std.proofs.Common.{subst, refl, inr}
use Rattle.std.specs.Prelude.{true, false, Err}
use Rattle.std.proofs.lemmas.Bool.{false≢true}
use Rattle.std.proofs.lemmas.Result.{err_from_is_err_and}
use Rattle.slotted_explain.specs.Image.{IsUnion}
use Rattle.slotted_explain.specs.Nodes.{to_applied}
use Rattle.slotted_explain.proofs.CallerLemmas.{full-valid}
use Rattle.slotted_commands.specs.Commands.{unites}
use Rattle.slotted_commands.specs.Sessions.{are_united, were_equal}
use Rattle.slotted_commands.proofs.Steps.{unites_says, union_refused, union_done}
use Rattle.slotted_commands.proofs.session.unite.Goals as goal

pub returns-in_err-left : goal.returns-in_err-left
returns-in_err-left g c =
    let p = err_from_is_err_and c.from_residual.result c.from_residual.ensures.1 in
    rw (p.1, p.2) (c.in_err-left.ensures.err (unites c.args.left.now c.args.right.now) tt refl refl)

pub union-requires-clause-left : goal.union-requires-clause-left
union-requires-clause-left g c = inr (full-valid c.add_both.new.graph (to_applied c.in_ok-left.left) c.in_ok-left.ensures.ok.left_valid)

pub union-requires-clause-right : goal.union-requires-clause-right
union-requires-clause-right g c = inr (full-valid c.add_both.new.graph (to_applied c.in_ok-left.right) c.in_ok-left.ensures.ok.right_valid)

pub returns-in_err-union : goal.returns-in_err-union
returns-in_err-union g c =
    let e = c.in_err-union.ensures in
    let p = err_from_is_err_and c.from_residual-in_err-union.result c.from_residual-in_err-union.ensures.1 in
    let both = c.in_ok-left.ensures.ok in
    rw (p.1, p.2) (unites_says g.L.LanguageChildren.read g.L.Printable.written c.args.graph.now c.add_both.new.graph c.args.left.now c.args.right.now c.in_ok-left.left c.in_ok-left.right both c.union.new.self _
    (union_refused g.L.Printable.written c.add_both.new.graph c.union.new.self c.args.left.now c.args.right.now both.first both.second (to_applied c.in_ok-left.left) (to_applied c.in_ok-left.right) (Err c.in_err-union.field-0.0) c.in_err-union.field-0.0 refl both.sound_now
    e.failed.0 e.fails.1 e.full e.only e.table))

pub returns-then-branch : goal.returns-then-branch
returns-then-branch g c =
    let e = c.in_ok-union.ensures in
    let a = to_applied c.in_ok-left.left in
    let b = to_applied c.in_ok-left.right in
    unites_says g.L.LanguageChildren.read g.L.Printable.written c.args.graph.now c.add_both.new.graph c.args.left.now c.args.right.now c.in_ok-left.left c.in_ok-left.right c.in_ok-left.ensures.ok c.union.new.self _
    (are_united (union_done c.add_both.new.graph c.union.new.self a b true (subst (IsUnion c.add_both.new.graph.image c.union.new.self.image a b) c.if-branch.true e.union) e.text (λ f. false≢true (e.fails.0 f)) e.table))

pub returns : goal.returns
returns g c =
    let e = c.in_ok-union.ensures in
    let a = to_applied c.in_ok-left.left in
    let b = to_applied c.in_ok-left.right in
    unites_says g.L.LanguageChildren.read g.L.Printable.written c.args.graph.now c.add_both.new.graph c.args.left.now c.args.right.now c.in_ok-left.left c.in_ok-left.right c.in_ok-left.ensures.ok c.union.new.self _
    (were_equal (union_done c.add_both.new.graph c.union.new.self a b false (subst (IsUnion c.add_both.new.graph.image c.union.new.self.image a b) c.if-branch.false e.union) e.text (λ f. false≢true (e.fails.0 f)) e.table))
