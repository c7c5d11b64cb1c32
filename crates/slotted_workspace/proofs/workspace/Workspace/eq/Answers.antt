use Rattle.std.proofs.lemmas.Result.{err_from_is_err_and}
use Rattle.slotted_workspace.specs.Asked.{Compares, HadFailed}
use Rattle.slotted_workspace.proofs.Methods.{both-answered, both-refused_here, is-kept}
use Rattle.slotted_workspace.proofs.Saying.{can-ask, compares, had-failed, kept-answered}
use Rattle.slotted_workspace.proofs.workspace.Workspace.eq.Goals as goal

pub eq-requires-clause-left : goal.eq-requires-clause-left
eq-requires-clause-left g c =
    let w = c.self.inside in
    can-ask w.graph c.in_ok-left.left.now (is-kept g.L.LanguageChildren.form w.number w.graph w.kept.items w.rules.items w.sparing c.args.self.now c.self.view_is c.deref.result.now c.deref.ensures.value c.args.a c.in_ok-left.left.now c.self.invariant c.in_ok-left.ensures.left)

pub eq-requires-clause-right : goal.eq-requires-clause-right
eq-requires-clause-right g c =
    let w = c.self.inside in
    can-ask w.graph c.in_ok-left.right.now (is-kept g.L.LanguageChildren.form w.number w.graph w.kept.items w.rules.items w.sparing c.args.self.now c.self.view_is c.deref.result.now c.deref.ensures.value c.args.b c.in_ok-left.right.now c.self.invariant c.in_ok-left.ensures.right)

pub returns-in_err-eq-clause-err : goal.returns-in_err-eq-clause-err
returns-in_err-eq-clause-err g c =
    let w = c.self.inside in
    let p = err_from_is_err_and c.from_residual-in_err-eq.result c.from_residual-in_err-eq.ensures.1 in
    rw (p.1, p.2) (both-refused_here g.L.LanguageChildren.form w.number w.graph w.kept.items w.rules.items w.sparing c.args.self.now c.self.view_is c.deref.result.now c.deref.ensures.value c.args.a c.args.b c.in_ok-left.left.now c.in_ok-left.right.now c.in_ok-left.ensures.left c.in_ok-left.ensures.right
    (λ x _ _. HadFailed x x) c.in_err-eq.field-0.0 (had-failed w.graph c.in_err-eq.field-0.0 c.in_err-eq.ensures.only c.in_err-eq.ensures.failed))

pub returns-clause-ok : goal.returns-clause-ok
returns-clause-ok g c =
    let w = c.self.inside in
    let left = c.in_ok-left.left.now in
    let right = c.in_ok-left.right.now in
    let e = c.in_ok-eq.ensures in
    let y = c.in_ok-eq.field-0 in
    both-answered g.L.LanguageChildren.form w.number w.graph w.kept.items w.rules.items w.sparing c.args.self.now c.self.view_is c.deref.result.now c.deref.ensures.value c.args.a c.args.b left right c.in_ok-left.ensures.left c.in_ok-left.ensures.right (λ x t u. Compares x t u y)
    (compares w.graph left right
    (kept-answered w.graph y e.failed (is-kept g.L.LanguageChildren.form w.number w.graph w.kept.items w.rules.items w.sparing c.args.self.now c.self.view_is c.deref.result.now c.deref.ensures.value c.args.a left c.self.invariant c.in_ok-left.ensures.left))
    (kept-answered w.graph y e.failed (is-kept g.L.LanguageChildren.form w.number w.graph w.kept.items w.rules.items w.sparing c.args.self.now c.self.view_is c.deref.result.now c.deref.ensures.value c.args.b right c.self.invariant c.in_ok-left.ensures.right))
    y e.failed e.found e.equal e.complete)
