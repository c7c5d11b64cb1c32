use Rattle.std.proofs.Common.{inr, sym, subst, rules}
use Rattle.std.specs.Prelude.{IsSome, OnOk}
use Rattle.slotted_patterns.specs.View.{tree_of}
use Rattle.slotted_proofs.specs.Equations.{to_applied}
use Rattle.slotted_rule_patterns.specs.PatternCode.{pattern_in}
use Rattle.slotted_rule_patterns.specs.Values.{values_of}
use Rattle.slotted_rules.proofs.Carrying.{carries-itself, left-carries}
use Rattle.slotted_rules.specs.Instances.{InstantiatesKnown}
use Rattle.slotted_rules.specs.Refusals.{IsMissing, PassesTests}
use Rattle.slotted_rules.proofs.Refusing.{left-extends, missing-left, missing-long, tests-passed}
use Rattle.slotted_rules.proofs.instances.pattern_subst.Goals as goal

pub returns-clause-extends : goal.returns-clause-extends
returns-clause-extends g c =
    let s = values_of c.args.subst.now in
    let q = tree_of g.L.LanguageChildren.form c.args.pattern.now in
    let g0 = c.args.graph.now in
    let i = c.instance-answer.new.graph in
    left-extends g0 i c.fail_if_short.new.graph (IsMissing s q) (missing-long s q) c.instance-answer.result (λ a. InstantiatesKnown g0 i s q (to_applied a)) (λ a k. k.instance.grows.extends)
    c.instance-answer.ensures.ok c.instance-answer.ensures.err c.fail_if_short.ensures.short c.fail_if_short.ensures.other

pub returns-clause-tested : goal.returns-clause-tested
returns-clause-tested g c =
    let s = values_of c.args.subst.now in
    let q = tree_of g.L.LanguageChildren.form c.args.pattern.now in
    let whole : IsSome (pattern_in q) = search rules in
    subst (λ r. OnOk r (PassesTests s q)) (sym c.fail_if_short.ensures.same) (tests-passed s q c.instance-answer.result whole c.instance-answer.ensures.given)

pub returns-clause-carries : goal.returns-clause-carries
returns-clause-carries g c = left-carries g.N.Analysis.codes g.N.Analysis.meaning c.args.graph.now c.instance-answer.new.graph c.fail_if_short.new.graph c.instance-answer.ensures.carries c.fail_if_short.ensures.left

pub returns-then-not-is_whole-clause-carries : goal.returns-then-not-is_whole-clause-carries
returns-then-not-is_whole-clause-carries g c = inr (carries-itself g.N.Analysis.codes g.N.Analysis.meaning g.met.N.Analysis.is_merge c.args.graph.now)

pub returns-clause-missing : goal.returns-clause-missing
returns-clause-missing g c well whole some =
    missing-left (values_of c.args.subst.now) (tree_of g.L.LanguageChildren.form c.args.pattern.now) c.args.graph.now c.instance-answer.new.graph c.fail_if_short.new.graph c.instance-answer.result c.fail_if_short.result
    c.fail_if_short.ensures.same c.fail_if_short.ensures.left (c.instance-answer.ensures.missing some)
