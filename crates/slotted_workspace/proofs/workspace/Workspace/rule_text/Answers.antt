use Rattle.std.proofs.Common.{subst, sym}
use Rattle.std.specs.Prelude.{map}
use Rattle.std.proofs.lemmas.Result.{err_from_is_err_and}
use Rattle.slotted_workspace.specs.Keeping.{IsSane}
use Rattle.slotted_workspace.specs.Spaces.{rule_of}
use Rattle.slotted_workspace.proofs.Methods.{rules-answered, rules-not_kept, rules-refused}
use Rattle.slotted_workspace.proofs.Staying.{sane-later, sane-with_rules}
use Rattle.slotted_workspace.proofs.workspace.Workspace.rule_text.Goals as goal

pub invariant_of-self : goal.invariant_of-self
invariant_of-self g c =
    let w = c.self.inside in
    sane-later g.L.LanguageChildren.form w.graph c.rules_of_text.new.graph w.kept.items w.rules.items c.in_err-rules.ensures.extends c.in_err-rules.ensures.stays c.self.invariant

pub returns-in_err-rules-clause-err : goal.returns-in_err-rules-clause-err
returns-in_err-rules-clause-err g c =
    let w = c.self.inside in
    let p = err_from_is_err_and c.from_residual.result c.from_residual.ensures.1 in
    rw (p.1, p.2) (rules-refused g.L.LanguageChildren.form w.number w.graph w.kept.items w.rules.items w.sparing c.args.self.now c.self.view_is g.L.LanguageChildren.read c.rules_of_text.new.graph c.args.text.now c.in_err-rules.field-0.0 c.in_err-rules.ensures.err)

pub invariant_of-self-in_err-append : goal.invariant_of-self-in_err-append
invariant_of-self-in_err-append g c =
    let w = c.self.inside in
    subst (λ l. IsSane g.L.LanguageChildren.form c.rules_of_text.new.graph w.kept.items l) (sym c.in_err-append.ensures.items)
    (sane-later g.L.LanguageChildren.form w.graph c.rules_of_text.new.graph w.kept.items w.rules.items c.in_ok-rules.ensures.extends c.in_ok-rules.ensures.stays c.self.invariant)

pub returns-in_err-append-clause-err : goal.returns-in_err-append-clause-err
returns-in_err-append-clause-err g c =
    let w = c.self.inside in
    let p = err_from_is_err_and c.from_residual-in_err-append.result c.from_residual-in_err-append.ensures.1 in
    rw (p.1, p.2) (rules-not_kept g.L.LanguageChildren.form w.number w.graph w.kept.items w.rules.items w.sparing c.args.self.now c.self.view_is g.L.LanguageChildren.read c.rules_of_text.new.graph c.args.text.now (map (rule_of g.L.LanguageChildren.form) c.in_ok-rules.rules.items) c.append.new.self.items c.in_err-append.ensures.items c.in_ok-rules.ensures.ok)

pub invariant_of-self-2 : goal.invariant_of-self-2
invariant_of-self-2 g c =
    let w = c.self.inside in
    sane-with_rules g.L.LanguageChildren.form c.rules_of_text.new.graph w.kept.items w.rules.items c.in_ok-rules.rules.items c.append.new.self.items c.in_ok-rules.ensures.searched c.in_ok-append.ensures.items
    (sane-later g.L.LanguageChildren.form w.graph c.rules_of_text.new.graph w.kept.items w.rules.items c.in_ok-rules.ensures.extends c.in_ok-rules.ensures.stays c.self.invariant)

pub returns-clause-ok : goal.returns-clause-ok
returns-clause-ok g c =
    let w = c.self.inside in
    rules-answered g.L.LanguageChildren.form w.number w.graph w.kept.items w.rules.items w.sparing c.args.self.now c.self.view_is g.L.LanguageChildren.read c.rules_of_text.new.graph c.args.text.now c.in_ok-rules.rules.items c.append.new.self.items c.in_ok-append.ensures.items c.in_ok-rules.ensures.ok
