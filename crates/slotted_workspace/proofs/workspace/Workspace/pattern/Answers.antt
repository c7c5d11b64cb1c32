use Rattle.std.proofs.lemmas.Result.{err_from_is_err_and}
use Rattle.slotted_workspace.specs.Asked.{PatternRefused}
use Rattle.slotted_workspace.proofs.Methods.{call-refused}
use Rattle.slotted_workspace.proofs.Staying.{sane-later}
use Rattle.slotted_workspace.proofs.workspace.Workspace.pattern.Goals as goal

pub invariant_of-self : goal.invariant_of-self
invariant_of-self g c =
    let w = c.self.inside in
    sane-later g.L.LanguageChildren.form w.graph c.read_pattern.new.graph w.kept.items w.rules.items c.in_err-read_pattern.ensures.extends c.in_err-read_pattern.ensures.stays c.self.invariant

pub invariant_of-self-2 : goal.invariant_of-self-2
invariant_of-self-2 g c =
    let w = c.self.inside in
    sane-later g.L.LanguageChildren.form w.graph c.read_pattern.new.graph w.kept.items w.rules.items c.in_ok-read_pattern.ensures.extends c.in_ok-read_pattern.ensures.stays c.self.invariant

pub returns-in_err-read_pattern-clause-err : goal.returns-in_err-read_pattern-clause-err
returns-in_err-read_pattern-clause-err g c =
    let w = c.self.inside in
    let h = c.read_pattern.new.graph in
    let form = g.L.LanguageChildren.form in
    let p = err_from_is_err_and c.from_residual.result c.from_residual.ensures.1 in
    rw (p.1, p.2) (call-refused form w.number w.graph w.kept.items w.rules.items w.sparing c.args.self.now c.self.view_is (λ x e. PatternRefused form g.L.LanguageChildren.read x h c.args.text.now e) h c.in_err-read_pattern.field-0.0 c.in_err-read_pattern.ensures.err)
