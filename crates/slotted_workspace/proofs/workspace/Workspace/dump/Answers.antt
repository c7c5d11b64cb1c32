use Rattle.std.proofs.lemmas.Result.{err_from_is_err_and}
use Rattle.slotted_workspace.specs.Asked.{DrawRefused}
use Rattle.slotted_workspace.proofs.Methods.{call-refused}
use Rattle.slotted_workspace.proofs.Staying.{sane-later}
use Rattle.slotted_workspace.proofs.workspace.Workspace.dump.Goals as goal

pub invariant_of-self : goal.invariant_of-self
invariant_of-self g c =
    let w = c.self.inside in
    sane-later g.L.LanguageChildren.form w.graph c.dumped.new.graph w.kept.items w.rules.items c.in_err-dumped.ensures.extends c.in_err-dumped.ensures.stays c.self.invariant

pub returns-in_err-dumped-clause-err : goal.returns-in_err-dumped-clause-err
returns-in_err-dumped-clause-err g c =
    let w = c.self.inside in
    let p = err_from_is_err_and c.from_residual.result c.from_residual.ensures.1 in
    rw (p.1, p.2) (call-refused g.L.LanguageChildren.form w.number w.graph w.kept.items w.rules.items w.sparing c.args.self.now c.self.view_is (λ x. DrawRefused x c.dumped.new.graph) c.dumped.new.graph c.in_err-dumped.field-0.0 c.in_err-dumped.ensures.err)

pub invariant_of-self-2 : goal.invariant_of-self-2
invariant_of-self-2 g c =
    let w = c.self.inside in
    sane-later g.L.LanguageChildren.form w.graph c.dumped.new.graph w.kept.items w.rules.items c.in_ok-dumped.ensures.extends c.in_ok-dumped.ensures.stays c.self.invariant
