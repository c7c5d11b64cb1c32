use Rattle.std.proofs.lemmas.Result.{err_from_is_err_and}
use Rattle.slotted_workspace.specs.Asked.{DrawRefused}
use Rattle.slotted_workspace.proofs.Methods.{call-refused}
use Rattle.slotted_workspace.proofs.Staying.{sane-later}
use Rattle.slotted_workspace.proofs.workspace.Workspace.picture.Goals as goal

pub invariant_of-self : goal.invariant_of-self
invariant_of-self g c =
    let w = c.self.inside in
    sane-later g.L.LanguageChildren.form w.graph c.drawn.new.graph w.kept.items w.rules.items c.in_err-drawn.ensures.extends c.in_err-drawn.ensures.stays c.self.invariant

pub returns-in_err-drawn-clause-err : goal.returns-in_err-drawn-clause-err
returns-in_err-drawn-clause-err g c =
    let w = c.self.inside in
    let p = err_from_is_err_and c.from_residual.result c.from_residual.ensures.1 in
    rw (p.1, p.2) (call-refused g.L.LanguageChildren.form w.number w.graph w.kept.items w.rules.items w.sparing c.args.self.now c.self.view_is (λ x. DrawRefused x c.drawn.new.graph) c.drawn.new.graph c.in_err-drawn.field-0.0 c.in_err-drawn.ensures.err)

pub invariant_of-self-2 : goal.invariant_of-self-2
invariant_of-self-2 g c =
    let w = c.self.inside in
    sane-later g.L.LanguageChildren.form w.graph c.drawn.new.graph w.kept.items w.rules.items c.in_ok-drawn.ensures.extends c.in_ok-drawn.ensures.stays c.self.invariant
