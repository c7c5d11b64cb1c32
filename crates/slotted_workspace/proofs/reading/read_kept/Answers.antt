use Rattle.std.proofs.Common.{◌≡◌}
use Rattle.std.proofs.lemmas.Result.{IfErr-weaker, IfOk-weaker}
use Rattle.slotted_slots.specs.Error.{IsOutOfMemory}
use Rattle.slotted_rules.specs.Written.{CanBeSearched}
use Rattle.slotted_workspace.specs.Asked.{ReadsKept, RuleRefused, not_kept}
use Rattle.slotted_workspace.specs.Spaces.{kept_as, rule_of}
use Rattle.slotted_workspace.proofs.KeptRules.{kept-searched, reads-kept}
use Rattle.slotted_workspace.proofs.reading.read_kept.Goals as goal

pub returns-clause-ok : goal.returns-clause-ok
returns-clause-ok g c =
    let form = g.L.LanguageChildren.form in
    let read = g.L.LanguageChildren.read in
    let a = c.args in
    IfOk-weaker c.kept_rule.result (λ r. rule_of form r ≡ kept_as form a.is_sparing c.in_ok-rule.rule) (λ r. ReadsKept form read a.is_sparing a.graph.now c.read_rule.new.graph a.name.now a.left.now a.right.now a.condition (rule_of form r))
    (reads-kept form a.is_sparing c.in_ok-rule.rule read a.graph.now c.read_rule.new.graph a.name.now a.left.now a.right.now a.condition c.in_ok-rule.ensures.ok) c.kept_rule.ensures.ok

pub returns-clause-searched : goal.returns-clause-searched
returns-clause-searched g c =
    let form = g.L.LanguageChildren.form in
    IfOk-weaker c.kept_rule.result (λ r. rule_of form r ≡ kept_as form c.args.is_sparing c.in_ok-rule.rule) (CanBeSearched form c.read_rule.new.graph.table)
    (kept-searched form c.args.is_sparing c.in_ok-rule.rule c.read_rule.new.graph.table c.in_ok-rule.ensures.searched) c.kept_rule.ensures.ok

pub returns-clause-err : goal.returns-clause-err
returns-clause-err g c =
    let form = g.L.LanguageChildren.form in
    let read = g.L.LanguageChildren.read in
    let a = c.args in
    IfErr-weaker c.kept_rule.result IsOutOfMemory (RuleRefused form read a.graph.now c.read_rule.new.graph a.left.now a.right.now a.condition)
    (λ e memory. not_kept c.in_ok-rule.ensures.ok.well c.in_ok-rule.ensures.ok.only memory) c.kept_rule.ensures.err
