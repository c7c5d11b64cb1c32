use Rattle.std.proofs.Common.{◌∙◌, inr, rules, sym}
use Rattle.std.specs.Prelude.{IsSome}
use Rattle.slotted_patterns.specs.View.{tree_of}
use Rattle.slotted_rule_patterns.specs.PatternCode.{pattern_in}
use Rattle.slotted_rule_patterns.specs.Values.{values_of}
use Rattle.slotted_rules.proofs.Carrying.{carries-itself, left-carries}
use Rattle.slotted_rules.proofs.Refusing.{missing-left, term-refused}
use Rattle.slotted_rules.proofs.with_method.subst_with.Goals as goal

pub returns-clause-carries : goal.returns-clause-carries
returns-clause-carries g c = left-carries g.N.Analysis.codes g.N.Analysis.meaning c.args.graph.now c.instance_by-answer.new.graph c.fail_if_short.new.graph c.instance_by-answer.ensures.carries c.fail_if_short.ensures.left

pub returns-then-not-is_whole-clause-carries : goal.returns-then-not-is_whole-clause-carries
returns-then-not-is_whole-clause-carries g c = inr (carries-itself g.N.Analysis.codes g.N.Analysis.meaning g.met.N.Analysis.is_merge c.args.graph.now)

pub returns-clause-missing : goal.returns-clause-missing
returns-clause-missing g c well whole some =
    missing-left (values_of c.args.subst.now) (tree_of g.L.LanguageChildren.form c.args.pattern.now) c.args.graph.now c.instance_by-answer.new.graph c.fail_if_short.new.graph c.instance_by-answer.result c.fail_if_short.result
    c.fail_if_short.ensures.same c.fail_if_short.ensures.left (c.instance_by-answer.ensures.missing some)

pub returns-clause-not_a_term : goal.returns-clause-not_a_term
returns-clause-not_a_term g c is =
    let s = values_of c.args.subst.now in
    let q = tree_of g.L.LanguageChildren.form c.args.pattern.now in
    let whole : IsSome (pattern_in q) = search rules in
    term-refused g.M.OwnSubst.refuses s q c.instance_by-answer.result whole (λ some. (c.instance_by-answer.ensures.missing some).0) c.instance_by-answer.ensures.only (sym c.fail_if_short.ensures.same ∙ is)
