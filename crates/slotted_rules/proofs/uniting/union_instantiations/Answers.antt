use Rattle.std.proofs.Common.{inr, sym, subst, rules}
use Rattle.std.specs.Prelude.{IsSome, OnOk}
use Rattle.slotted_patterns.specs.View.{tree_of}
use Rattle.slotted_classes.specs.Kept.{text_bytes}
use Rattle.slotted_rule_patterns.specs.PatternCode.{pattern_in}
use Rattle.slotted_rule_patterns.specs.Values.{values_of}
use Rattle.slotted_rules.proofs.Carrying.{carries-itself, left-carries}
use Rattle.slotted_rules.specs.Refusals.{AreMissing, HavePassed}
use Rattle.slotted_rules.specs.Uniting.{UnitesInstances}
use Rattle.slotted_rules.proofs.Refusing.{left-extends, both-long, both-passed}
use Rattle.slotted_rules.proofs.uniting.union_instantiations.Goals as goal

pub returns-clause-extends : goal.returns-clause-extends
returns-clause-extends g c =
    let s = values_of c.args.subst.now in
    let p = tree_of g.L.LanguageChildren.form c.args.a.now in
    let q = tree_of g.L.LanguageChildren.form c.args.b.now in
    let g0 = c.args.graph.now in
    let i = c.test_and_unite-answer.new.graph in
    left-extends g0 i c.fail_if_short.new.graph (AreMissing s p q) (both-long s p q) c.test_and_unite-answer.result (UnitesInstances g0 i s p q (text_bytes c.args.text)) (λ y u. u.extends)
    c.test_and_unite-answer.ensures.unites c.test_and_unite-answer.ensures.err c.fail_if_short.ensures.short c.fail_if_short.ensures.other

pub returns-clause-tested : goal.returns-clause-tested
returns-clause-tested g c =
    let s = values_of c.args.subst.now in
    let p = tree_of g.L.LanguageChildren.form c.args.a.now in
    let q = tree_of g.L.LanguageChildren.form c.args.b.now in
    let left : IsSome (pattern_in p) = search rules in
    let right : IsSome (pattern_in q) = search rules in
    subst (λ r. OnOk r (HavePassed s p q)) (sym c.fail_if_short.ensures.same) (both-passed s p q c.test_and_unite-answer.result left right c.test_and_unite-answer.ensures.left c.test_and_unite-answer.ensures.right)

pub returns-clause-carries : goal.returns-clause-carries
returns-clause-carries g c = left-carries g.N.Analysis.codes g.N.Analysis.meaning c.args.graph.now c.test_and_unite-answer.new.graph c.fail_if_short.new.graph c.test_and_unite-answer.ensures.carries c.fail_if_short.ensures.left

pub returns-then-not-is_whole-clause-carries : goal.returns-then-not-is_whole-clause-carries
returns-then-not-is_whole-clause-carries g c = inr (carries-itself g.N.Analysis.codes g.N.Analysis.meaning g.met.N.Analysis.is_merge c.args.graph.now)
