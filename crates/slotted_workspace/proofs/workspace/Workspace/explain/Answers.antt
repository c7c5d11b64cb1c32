use Rattle.std.proofs.lemmas.Result.{err_from_is_err_and}
use Rattle.slotted_workspace.specs.Asked.{ExplainRefused, ExplainsTerms}
use Rattle.slotted_workspace.proofs.Methods.{both-answered, both-refused, both-unknown, is-kept}
use Rattle.slotted_workspace.proofs.Staying.{sane-later}
use Rattle.slotted_workspace.proofs.workspace.Workspace.explain.Goals as goal

pub returns-in_err-left-clause-err : goal.returns-in_err-left-clause-err
returns-in_err-left-clause-err g c =
    let w = c.self.inside in
    let p = err_from_is_err_and c.from_residual.result c.from_residual.ensures.1 in
    rw (p.1, p.2) (both-unknown g.L.LanguageChildren.form w.number w.graph w.kept.items w.rules.items w.sparing c.args.self.now c.self.view_is c.deref.result.now c.deref.ensures.value c.args.a c.args.b (ExplainRefused g.L.Printable.written c.args.self.now.graph c.args.self.now.graph) c.in_err-left.field-0.0 c.in_err-left.ensures.err)

pub explanation-requires-clause-left : goal.explanation-requires-clause-left
explanation-requires-clause-left g c =
    let w = c.self.inside in
    is-kept g.L.LanguageChildren.form w.number w.graph w.kept.items w.rules.items w.sparing c.args.self.now c.self.view_is c.deref.result.now c.deref.ensures.value c.args.a c.in_ok-left.left.now c.self.invariant c.in_ok-left.ensures.left

pub explanation-requires-clause-right : goal.explanation-requires-clause-right
explanation-requires-clause-right g c =
    let w = c.self.inside in
    is-kept g.L.LanguageChildren.form w.number w.graph w.kept.items w.rules.items w.sparing c.args.self.now c.self.view_is c.deref.result.now c.deref.ensures.value c.args.b c.in_ok-left.right.now c.self.invariant c.in_ok-left.ensures.right

pub invariant_of-self : goal.invariant_of-self
invariant_of-self g c =
    let w = c.self.inside in
    sane-later g.L.LanguageChildren.form w.graph c.explanation.new.graph w.kept.items w.rules.items c.in_err-explanation.ensures.extends c.in_err-explanation.ensures.stays c.self.invariant

pub returns-in_err-explanation-clause-err : goal.returns-in_err-explanation-clause-err
returns-in_err-explanation-clause-err g c =
    let w = c.self.inside in
    let p = err_from_is_err_and c.from_residual-in_err-explanation.result c.from_residual-in_err-explanation.ensures.1 in
    rw (p.1, p.2) (both-refused g.L.LanguageChildren.form w.number w.graph w.kept.items w.rules.items w.sparing c.args.self.now c.self.view_is c.deref.result.now c.deref.ensures.value c.args.a c.args.b c.in_ok-left.left.now c.in_ok-left.right.now c.in_ok-left.ensures.left c.in_ok-left.ensures.right
    (λ x. (ExplainRefused g.L.Printable.written x c.explanation.new.graph)) c.explanation.new.graph c.in_err-explanation.field-0.0 c.in_err-explanation.ensures.err)

pub invariant_of-self-2 : goal.invariant_of-self-2
invariant_of-self-2 g c =
    let w = c.self.inside in
    sane-later g.L.LanguageChildren.form w.graph c.explanation.new.graph w.kept.items w.rules.items c.in_ok-explanation.ensures.extends c.in_ok-explanation.ensures.stays c.self.invariant

pub returns-clause-ok : goal.returns-clause-ok
returns-clause-ok g c =
    let w = c.self.inside in
    both-answered g.L.LanguageChildren.form w.number w.graph w.kept.items w.rules.items w.sparing c.args.self.now c.self.view_is c.deref.result.now c.deref.ensures.value c.args.a c.args.b c.in_ok-left.left.now c.in_ok-left.right.now c.in_ok-left.ensures.left c.in_ok-left.ensures.right
    (λ x t u. ExplainsTerms g.L.Printable.written x c.explanation.new.graph t u c.in_ok-explanation.field-0) c.in_ok-explanation.ensures.ok
