use Rattle.std.proofs.lemmas.Result.{err_from_is_err_and}
use Rattle.slotted_workspace.specs.Decided.{DecideRefused, ProvesTerms}
use Rattle.slotted_workspace.proofs.Methods.{both-answered, both-refused, both-unknown, is-kept}
use Rattle.slotted_workspace.proofs.Staying.{sane-later}
use Rattle.slotted_workspace.proofs.workspace.Workspace.decided_explain.Goals as goal

pub returns-in_err-left-clause-err : goal.returns-in_err-left-clause-err
returns-in_err-left-clause-err g c =
    let w = c.self.inside in
    let p = err_from_is_err_and c.from_residual.result c.from_residual.ensures.1 in
    rw (p.1, p.2) (both-unknown g.L.LanguageChildren.form w.number w.graph w.kept.items w.rules.items w.sparing c.args.self.now c.self.view_is c.deref.result.now c.deref.ensures.value c.args.a c.args.b (λ _ _. DecideRefused c.args.self.now.graph c.args.self.now.graph) c.in_err-left.field-0.0 c.in_err-left.ensures.err)

pub proved-requires-clause-left : goal.proved-requires-clause-left
proved-requires-clause-left g c =
    let w = c.self.inside in
    is-kept g.L.LanguageChildren.form w.number w.graph w.kept.items w.rules.items w.sparing c.args.self.now c.self.view_is c.deref.result.now c.deref.ensures.value c.args.a c.in_ok-left.left.now c.self.invariant c.in_ok-left.ensures.left

pub proved-requires-clause-right : goal.proved-requires-clause-right
proved-requires-clause-right g c =
    let w = c.self.inside in
    is-kept g.L.LanguageChildren.form w.number w.graph w.kept.items w.rules.items w.sparing c.args.self.now c.self.view_is c.deref.result.now c.deref.ensures.value c.args.b c.in_ok-left.right.now c.self.invariant c.in_ok-left.ensures.right

pub invariant_of-self : goal.invariant_of-self
invariant_of-self g c =
    let w = c.self.inside in
    sane-later g.L.LanguageChildren.form w.graph c.proved.new.graph w.kept.items w.rules.items c.in_err-proved.ensures.extends c.in_err-proved.ensures.stays c.self.invariant

pub returns-in_err-proved-clause-err : goal.returns-in_err-proved-clause-err
returns-in_err-proved-clause-err g c =
    let w = c.self.inside in
    let p = err_from_is_err_and c.from_residual-in_err-proved.result c.from_residual-in_err-proved.ensures.1 in
    rw (p.1, p.2) (both-refused g.L.LanguageChildren.form w.number w.graph w.kept.items w.rules.items w.sparing c.args.self.now c.self.view_is c.deref.result.now c.deref.ensures.value c.args.a c.args.b c.in_ok-left.left.now c.in_ok-left.right.now c.in_ok-left.ensures.left c.in_ok-left.ensures.right
    (λ x _ _. DecideRefused x c.proved.new.graph) c.proved.new.graph c.in_err-proved.field-0.0 c.in_err-proved.ensures.err)

pub invariant_of-self-2 : goal.invariant_of-self-2
invariant_of-self-2 g c =
    let w = c.self.inside in
    sane-later g.L.LanguageChildren.form w.graph c.proved.new.graph w.kept.items w.rules.items c.in_ok-proved.ensures.extends c.in_ok-proved.ensures.stays c.self.invariant

pub returns-clause-ok : goal.returns-clause-ok
returns-clause-ok g c =
    let w = c.self.inside in
    both-answered g.L.LanguageChildren.form w.number w.graph w.kept.items w.rules.items w.sparing c.args.self.now c.self.view_is c.deref.result.now c.deref.ensures.value c.args.a c.args.b c.in_ok-left.left.now c.in_ok-left.right.now c.in_ok-left.ensures.left c.in_ok-left.ensures.right
    (λ x t u. ProvesTerms g.L.Printable.written x c.proved.new.graph t u c.in_ok-proved.field-0) c.in_ok-proved.ensures.ok
