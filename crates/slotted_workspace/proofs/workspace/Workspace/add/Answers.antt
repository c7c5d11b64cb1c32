use Rattle.std.proofs.Common.{◌∙◌, subst, sym}
use Rattle.std.proofs.lemmas.Result.{err_from_is_err_and}
use Rattle.slotted_explain.specs.Nodes.{to_applied}
use Rattle.slotted_workspace.specs.Keeping.{IsSane}
use Rattle.slotted_workspace.proofs.Methods.{add-answered, add-not_kept, add-refused}
use Rattle.slotted_workspace.proofs.Saying.{kept-added}
use Rattle.slotted_workspace.proofs.Staying.{sane-later, sane-with_kept}
use Rattle.slotted_workspace.proofs.workspace.Workspace.add.Goals as goal

pub invariant_of-self : goal.invariant_of-self
invariant_of-self g c =
    sane-later g.L.LanguageChildren.form c.self.inside.graph c.read_term.new.graph c.self.inside.kept.items c.self.inside.rules.items c.in_err-kept.ensures.extends c.in_err-kept.ensures.stays c.self.invariant

pub returns-in_err-kept-clause-err : goal.returns-in_err-kept-clause-err
returns-in_err-kept-clause-err g c =
    let p = err_from_is_err_and c.from_residual.result c.from_residual.ensures.1 in
    rw (p.1, p.2) (add-refused g.L.LanguageChildren.form c.self.inside.number c.self.inside.graph c.self.inside.kept.items c.self.inside.rules.items c.self.inside.sparing c.args.self.now c.self.view_is g.L.LanguageChildren.read c.read_term.new.graph c.args.text.now c.in_err-kept.field-0.0 c.in_err-kept.ensures.err)

pub invariant_of-self-in_err-push : goal.invariant_of-self-in_err-push
invariant_of-self-in_err-push g c =
    let form = g.L.LanguageChildren.form in
    subst (λ l. IsSane form c.read_term.new.graph l c.self.inside.rules.items) (sym c.in_err-push.ensures.items)
    (sane-later form c.self.inside.graph c.read_term.new.graph c.self.inside.kept.items c.self.inside.rules.items c.in_ok-kept.ensures.extends c.in_ok-kept.ensures.stays c.self.invariant)

pub returns-in_err-push-clause-err : goal.returns-in_err-push-clause-err
returns-in_err-push-clause-err g c =
    let k = c.in_ok-kept.kept in
    let p = err_from_is_err_and c.from_residual-in_err-push.result c.from_residual-in_err-push.ensures.1 in
    rw (p.1, p.2) (add-not_kept g.L.LanguageChildren.form c.self.inside.number c.self.inside.graph c.self.inside.kept.items c.self.inside.rules.items c.self.inside.sparing c.args.self.now c.self.view_is g.L.LanguageChildren.read c.read_term.new.graph c.args.text.now k.term (to_applied k.id) c.push.new.self.items c.in_err-push.ensures.items c.in_ok-kept.ensures.ok)

pub invariant_of-self-2 : goal.invariant_of-self-2
invariant_of-self-2 g c =
    let form = g.L.LanguageChildren.form in
    sane-with_kept form c.read_term.new.graph c.self.inside.kept.items c.push.new.self.items c.self.inside.rules.items c.in_ok-kept.kept (kept-added g.L.LanguageChildren.read c.self.inside.graph c.read_term.new.graph c.args.text.now c.in_ok-kept.kept c.in_ok-kept.ensures.ok c.in_ok-kept.ensures.valid) c.in_ok-push.ensures.items
    (sane-later form c.self.inside.graph c.read_term.new.graph c.self.inside.kept.items c.self.inside.rules.items c.in_ok-kept.ensures.extends c.in_ok-kept.ensures.stays c.self.invariant)

pub returns-clause-ok : goal.returns-clause-ok
returns-clause-ok g c =
    let k = c.in_ok-kept.kept in
    add-answered g.L.LanguageChildren.form c.self.inside.number c.self.inside.graph c.self.inside.kept.items c.self.inside.rules.items c.self.inside.sparing c.args.self.now c.self.view_is g.L.LanguageChildren.read c.read_term.new.graph c.args.text.now k (to_applied k.id) c.push.new.self.items c.len-index.result c.in_ok-push.ensures.items (c.len-index.ensures ∙ c.self.inside.kept.ok.0) c.in_ok-kept.ensures.ok c.in_ok-kept.ensures.valid
