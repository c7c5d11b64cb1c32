use Rattle.std.proofs.lemmas.Result.{err_from_is_err_and}
use Rattle.slotted_workspace.specs.Decided.{DecideRefused, JudgesTerms}
use Rattle.slotted_workspace.proofs.Methods.{both-answered, both-refused, both-unknown, is-kept}
use Rattle.slotted_workspace.proofs.Staying.{sane-later}
use Rattle.slotted_workspace.proofs.workspace.Workspace.decided_eq.Goals as goal

pub returns-in_err-left-clause-err : goal.returns-in_err-left-clause-err
returns-in_err-left-clause-err g c =
    let w = c.self.inside in
    let p = err_from_is_err_and c.from_residual.result c.from_residual.ensures.1 in
    rw (p.1, p.2) (both-unknown g.L.LanguageChildren.form w.number w.graph w.kept.items w.rules.items w.sparing c.args.self.now c.self.view_is c.deref.result.now c.deref.ensures.value c.args.a c.args.b (λ _ _. DecideRefused c.args.self.now.graph c.args.self.now.graph) c.in_err-left.field-0.0 c.in_err-left.ensures.err)

pub judged-requires-clause-left : goal.judged-requires-clause-left
judged-requires-clause-left g c =
    let w = c.self.inside in
    is-kept g.L.LanguageChildren.form w.number w.graph w.kept.items w.rules.items w.sparing c.args.self.now c.self.view_is c.deref.result.now c.deref.ensures.value c.args.a c.in_ok-left.left.now c.self.invariant c.in_ok-left.ensures.left

pub judged-requires-clause-right : goal.judged-requires-clause-right
judged-requires-clause-right g c =
    let w = c.self.inside in
    is-kept g.L.LanguageChildren.form w.number w.graph w.kept.items w.rules.items w.sparing c.args.self.now c.self.view_is c.deref.result.now c.deref.ensures.value c.args.b c.in_ok-left.right.now c.self.invariant c.in_ok-left.ensures.right

pub invariant_of-self : goal.invariant_of-self
invariant_of-self g c =
    let w = c.self.inside in
    sane-later g.L.LanguageChildren.form w.graph c.judged.new.graph w.kept.items w.rules.items c.in_err-judged.ensures.extends c.in_err-judged.ensures.stays c.self.invariant

pub returns-in_err-judged-clause-err : goal.returns-in_err-judged-clause-err
returns-in_err-judged-clause-err g c =
    let w = c.self.inside in
    let p = err_from_is_err_and c.from_residual-in_err-judged.result c.from_residual-in_err-judged.ensures.1 in
    rw (p.1, p.2) (both-refused g.L.LanguageChildren.form w.number w.graph w.kept.items w.rules.items w.sparing c.args.self.now c.self.view_is c.deref.result.now c.deref.ensures.value c.args.a c.args.b c.in_ok-left.left.now c.in_ok-left.right.now c.in_ok-left.ensures.left c.in_ok-left.ensures.right
    (λ x _ _. DecideRefused x c.judged.new.graph) c.judged.new.graph c.in_err-judged.field-0.0 c.in_err-judged.ensures.err)

pub invariant_of-self-2 : goal.invariant_of-self-2
invariant_of-self-2 g c =
    let w = c.self.inside in
    sane-later g.L.LanguageChildren.form w.graph c.judged.new.graph w.kept.items w.rules.items c.in_ok-judged.ensures.extends c.in_ok-judged.ensures.stays c.self.invariant

pub returns-clause-ok : goal.returns-clause-ok
returns-clause-ok g c =
    let w = c.self.inside in
    both-answered g.L.LanguageChildren.form w.number w.graph w.kept.items w.rules.items w.sparing c.args.self.now c.self.view_is c.deref.result.now c.deref.ensures.value c.args.a c.args.b c.in_ok-left.left.now c.in_ok-left.right.now c.in_ok-left.ensures.left c.in_ok-left.ensures.right
    (λ x t u. JudgesTerms x c.judged.new.graph t u c.in_ok-judged.field-0) c.in_ok-judged.ensures.ok
