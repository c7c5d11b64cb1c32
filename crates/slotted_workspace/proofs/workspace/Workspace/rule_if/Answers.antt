use Rattle.std.proofs.Common.{subst, sym}
use Rattle.std.proofs.lemmas.Result.{err_from_is_err_and}
use Rattle.slotted_workspace.specs.Keeping.{IsSane}
use Rattle.slotted_workspace.specs.Spaces.{rule_of}
use Rattle.slotted_workspace.proofs.Methods.{rule-answered, rule-not_kept, rule-refused}
use Rattle.slotted_workspace.proofs.Staying.{sane-later, sane-with_rule}
use Rattle.slotted_workspace.proofs.workspace.Workspace.rule_if.Goals as goal

pub invariant_of-self : goal.invariant_of-self
invariant_of-self g c =
    let w = c.self.inside in
    sane-later g.L.LanguageChildren.form w.graph c.read_kept.new.graph w.kept.items w.rules.items c.in_err-rule.ensures.extends c.in_err-rule.ensures.stays c.self.invariant

pub returns-in_err-rule-clause-err : goal.returns-in_err-rule-clause-err
returns-in_err-rule-clause-err g c =
    let w = c.self.inside in
    let p = err_from_is_err_and c.from_residual.result c.from_residual.ensures.1 in
    rw (p.1, p.2) (rule-refused g.L.LanguageChildren.form w.number w.graph w.kept.items w.rules.items w.sparing c.args.self.now c.self.view_is g.L.LanguageChildren.read c.read_kept.new.graph c.args.name.now c.args.left.now c.args.right.now c.args.condition c.in_err-rule.field-0.0 c.in_err-rule.ensures.err)

pub invariant_of-self-in_err-push : goal.invariant_of-self-in_err-push
invariant_of-self-in_err-push g c =
    let w = c.self.inside in
    subst (λ l. IsSane g.L.LanguageChildren.form c.read_kept.new.graph w.kept.items l) (sym c.in_err-push.ensures.items)
    (sane-later g.L.LanguageChildren.form w.graph c.read_kept.new.graph w.kept.items w.rules.items c.in_ok-rule.ensures.extends c.in_ok-rule.ensures.stays c.self.invariant)

pub returns-in_err-push-clause-err : goal.returns-in_err-push-clause-err
returns-in_err-push-clause-err g c =
    let w = c.self.inside in
    let p = err_from_is_err_and c.from_residual-in_err-push.result c.from_residual-in_err-push.ensures.1 in
    rw (p.1, p.2) (rule-not_kept g.L.LanguageChildren.form w.number w.graph w.kept.items w.rules.items w.sparing c.args.self.now c.self.view_is g.L.LanguageChildren.read c.read_kept.new.graph c.args.name.now c.args.left.now c.args.right.now c.args.condition (rule_of g.L.LanguageChildren.form c.in_ok-rule.rule) c.push.new.self.items c.in_err-push.ensures.items c.in_ok-rule.ensures.ok)

pub invariant_of-self-2 : goal.invariant_of-self-2
invariant_of-self-2 g c =
    let w = c.self.inside in
    sane-with_rule g.L.LanguageChildren.form c.read_kept.new.graph w.kept.items w.rules.items c.push.new.self.items c.in_ok-rule.rule c.in_ok-rule.ensures.searched c.in_ok-push.ensures.items
    (sane-later g.L.LanguageChildren.form w.graph c.read_kept.new.graph w.kept.items w.rules.items c.in_ok-rule.ensures.extends c.in_ok-rule.ensures.stays c.self.invariant)

pub returns-clause-ok : goal.returns-clause-ok
returns-clause-ok g c =
    let w = c.self.inside in
    rule-answered g.L.LanguageChildren.form w.number w.graph w.kept.items w.rules.items w.sparing c.args.self.now c.self.view_is g.L.LanguageChildren.read c.read_kept.new.graph c.args.name.now c.args.left.now c.args.right.now c.args.condition c.in_ok-rule.rule c.push.new.self.items c.in_ok-push.ensures.items c.in_ok-rule.ensures.ok
