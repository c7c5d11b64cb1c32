use Rattle.std.proofs.lemmas.Result.{err_from_is_err_and}
use Rattle.slotted_workspace.specs.Asked.{SearchRefused}
use Rattle.slotted_workspace.proofs.Methods.{call-refused}
use Rattle.slotted_workspace.proofs.Staying.{sane-later}
use Rattle.slotted_workspace.proofs.workspace.Workspace.count_matches.Goals as goal

pub invariant_of-self : goal.invariant_of-self
invariant_of-self g c =
    let w = c.self.inside in
    sane-later g.L.LanguageChildren.form w.graph c.count_found.new.graph w.kept.items w.rules.items c.in_err-count_found.ensures.extends c.in_err-count_found.ensures.stays c.self.invariant

pub returns-in_err-count_found-clause-err : goal.returns-in_err-count_found-clause-err
returns-in_err-count_found-clause-err g c =
    let w = c.self.inside in
    let p = err_from_is_err_and c.from_residual.result c.from_residual.ensures.1 in
    rw (p.1, p.2) (call-refused g.L.LanguageChildren.form w.number w.graph w.kept.items w.rules.items w.sparing c.args.self.now c.self.view_is (λ x. SearchRefused g.L.LanguageChildren.form g.L.LanguageChildren.read x c.count_found.new.graph c.args.text.now) c.count_found.new.graph c.in_err-count_found.field-0.0 c.in_err-count_found.ensures.err)

pub invariant_of-self-2 : goal.invariant_of-self-2
invariant_of-self-2 g c =
    let w = c.self.inside in
    sane-later g.L.LanguageChildren.form w.graph c.count_found.new.graph w.kept.items w.rules.items c.in_ok-count_found.ensures.extends c.in_ok-count_found.ensures.stays c.self.invariant
