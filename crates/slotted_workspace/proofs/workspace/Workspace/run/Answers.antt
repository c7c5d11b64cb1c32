use Rattle.std.proofs.Common.{◌∙◌, ap}
use Rattle.std.specs.Prelude.{map}
use Rattle.std.proofs.lemmas.Result.{err_from_is_err_and}
use Rattle.slotted_workspace.specs.Runs.{OfRules, RunRefused}
use Rattle.slotted_workspace.specs.Spaces.{rule_of}
use Rattle.slotted_workspace.proofs.Methods.{call-refused, can-run}
use Rattle.slotted_workspace.proofs.Staying.{sane-later}
use Rattle.slotted_workspace.proofs.workspace.Workspace.run.Goals as goal

pub run_rules-requires : goal.run_rules-requires
run_rules-requires g c =
    let w = c.self.inside in
    can-run g.L.LanguageChildren.form w.graph w.kept.items w.rules.items c.deref.result.now c.deref.ensures.value c.self.invariant

pub invariant_of-self : goal.invariant_of-self
invariant_of-self g c =
    let w = c.self.inside in
    sane-later g.L.LanguageChildren.form w.graph c.run_rules.new.graph w.kept.items w.rules.items c.in_err-run_rules.ensures.extends c.in_err-run_rules.ensures.stays c.self.invariant

pub invariant_of-self-2 : goal.invariant_of-self-2
invariant_of-self-2 g c =
    let w = c.self.inside in
    sane-later g.L.LanguageChildren.form w.graph c.run_rules.new.graph w.kept.items w.rules.items c.in_ok-run_rules.ensures.extends c.in_ok-run_rules.ensures.stays c.self.invariant

pub returns-in_err-run_rules-clause-err : goal.returns-in_err-run_rules-clause-err
returns-in_err-run_rules-clause-err g c =
    let form = g.L.LanguageChildren.form in
    let w = c.self.inside in
    let s = c.args.self.now in
    let h = c.run_rules.new.graph in
    let view = c.self.view_is in
    let p = err_from_is_err_and c.from_residual.result c.from_residual.ensures.1 in
    rw (p.1, p.2) (call-refused form w.number w.graph w.kept.items w.rules.items w.sparing s view (λ x e. OfRules form s (λ rules. RunRefused form rules c.args.limits.turns c.args.limits.nodes x h e)) h c.in_err-run_rules.field-0.0
    (c.deref.result.now, ap (map (rule_of form)) c.deref.ensures.value ∙ (λ i. (view i).rules), c.in_err-run_rules.ensures.answers))
