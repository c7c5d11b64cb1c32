use Rattle.std.proofs.Common.{◌∙◌}
use Rattle.slotted_rule_patterns.proofs.FirstInside.{first-later, node-here, node-itself, body-here, part-here, value-here, variable-itself, substitution-itself}
use Rattle.slotted_rule_patterns.proofs.inside.+first_by_calls.Goals as goal

pub loop-child-preserved : goal.loop-child-preserved
loop-child-preserved g t c =
    first-later g.L.LanguageChildren.form (g.Q.Question.holds c.args.question.now) c.deref-child-items.result.now c.loop-child.child-index c.child-item.result c.first_by_calls.result _ c.loop-child-test.true c.child-item.is c.first_by_calls.ensures c.in_default.is c.loop-child.invariant

pub returns-in-Some : goal.returns-in-Some
returns-in-Some g t c =
    node-here g.L.LanguageChildren.form (g.Q.Question.holds c.args.question.now) c.args.pattern.now _ c.in-ENode.children c.in-ENode.is c.deref-child-items.result.now c.deref-child-items.ensures.value c.loop-child.child-index c.child-item.result c.first_by_calls.result c.in-Some.found c.loop-child-test.true c.child-item.is c.first_by_calls.ensures c.in-Some.is c.loop-child.invariant

pub returns-after-loop-child : goal.returns-after-loop-child
returns-after-loop-child g t c =
    node-itself g.L.LanguageChildren.form (g.Q.Question.holds c.args.question.now) c.args.pattern.now _ c.in-ENode.children c.in-ENode.is c.deref-child-items.result.now c.deref-child-items.ensures.value c.loop-child.child-index _ c.loop-child-test.false c.loop-child.invariant c.itself.ensures

pub returns-in-PVar : goal.returns-in-PVar
returns-in-PVar g t c =
    c.itself-in-PVar.ensures ∙ variable-itself g.L.LanguageChildren.form (g.Q.Question.holds c.args.question.now) c.args.pattern.now c.in-PVar.field-0 c.in-PVar.is

pub returns-in-Some-first_by_calls : goal.returns-in-Some-first_by_calls
returns-in-Some-first_by_calls g t c =
    body-here g.L.LanguageChildren.form (g.Q.Question.holds c.args.question.now) c.args.pattern.now c.in-Subst.body c.in-Subst.part c.in-Subst.value c.in-Subst.is c.deref.result.now c.first_by_calls-in-Subst.result c.deref.ensures c.first_by_calls-in-Subst.ensures c.in-Some-first_by_calls.found c.in-Some-first_by_calls.is

pub returns-in-Some-first_by_calls-2 : goal.returns-in-Some-first_by_calls-2
returns-in-Some-first_by_calls-2 g t c =
    part-here g.L.LanguageChildren.form (g.Q.Question.holds c.args.question.now) c.args.pattern.now c.in-Subst.body c.in-Subst.part c.in-Subst.value c.in-Subst.is c.deref.result.now c.first_by_calls-in-Subst.result c.deref.ensures c.first_by_calls-in-Subst.ensures
    c.in_default-first_by_calls.is c.deref-in-Subst.result.now c.first_by_calls-in-Subst-2.result c.deref-in-Subst.ensures c.first_by_calls-in-Subst-2.ensures c.in-Some-first_by_calls-2.found c.in-Some-first_by_calls-2.is

pub returns-in-Some-first_by_calls-3 : goal.returns-in-Some-first_by_calls-3
returns-in-Some-first_by_calls-3 g t c =
    value-here g.L.LanguageChildren.form (g.Q.Question.holds c.args.question.now) c.args.pattern.now c.in-Subst.body c.in-Subst.part c.in-Subst.value c.in-Subst.is c.deref.result.now c.first_by_calls-in-Subst.result c.deref.ensures c.first_by_calls-in-Subst.ensures
    c.in_default-first_by_calls.is c.deref-in-Subst.result.now c.first_by_calls-in-Subst-2.result c.deref-in-Subst.ensures c.first_by_calls-in-Subst-2.ensures
    c.in_default-first_by_calls-2.is c.deref-in-Subst-2.result.now c.first_by_calls-in-Subst-3.result c.deref-in-Subst-2.ensures c.first_by_calls-in-Subst-3.ensures c.in-Some-first_by_calls-3.found c.in-Some-first_by_calls-3.is

pub returns-in_default-first_by_calls-3 : goal.returns-in_default-first_by_calls-3
returns-in_default-first_by_calls-3 g t c =
    substitution-itself g.L.LanguageChildren.form (g.Q.Question.holds c.args.question.now) c.args.pattern.now c.in-Subst.body c.in-Subst.part c.in-Subst.value c.in-Subst.is c.deref.result.now c.first_by_calls-in-Subst.result c.deref.ensures c.first_by_calls-in-Subst.ensures
    c.in_default-first_by_calls.is c.deref-in-Subst.result.now c.first_by_calls-in-Subst-2.result c.deref-in-Subst.ensures c.first_by_calls-in-Subst-2.ensures
    c.in_default-first_by_calls-2.is c.deref-in-Subst-2.result.now c.first_by_calls-in-Subst-3.result c.deref-in-Subst-2.ensures c.first_by_calls-in-Subst-3.ensures _ c.in_default-first_by_calls-3.is c.itself-in-Subst.ensures
