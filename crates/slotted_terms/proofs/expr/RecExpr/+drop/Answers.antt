use Rattle.std.proofs.Common.{ℕ, ◌+◌, ◌*◌, ◌<◌, ◌≤◌, rules, subst, is_ok, arith}
use denote.Param.Weighed.{most}
use Rattle.slotted_theory.specs.Term.{Term, term_size}
use Rattle.slotted_terms.proofs.SubtermSizes.{total, total_le-term, opened_smaller, under_smaller}
use Rattle.slotted_terms.proofs.expr.RecExpr.+drop.Goals as goal

pub loop-next-init : goal.loop-next-init
loop-next-init g t c =
    subst (λ x. total c.self.inside.children.items ≤ term_size x) c.self.view_is (total_le-term (g.L.LanguageChildren.form c.self.inside.node) c.self.inside.children.items)

pub drop-below-requires : goal.drop-below-requires
drop-below-requires g t c κs within =
    let size : Term → ℕ = λ x. 1 * (term_size x + 1) + 0 in
    let small = under_smaller size (λ x. omega arith) c.loop-next.left.items c.pop.new.self.items c.into_parts.result.1.items c.append.new.other.items c.pop.result c.in-Some.next (g.L.LanguageChildren.form c.into_parts.result.0) (is_ok c.append.result) c.pop.ensures.items c.in-Some.is c.into_parts.ensures c.append.ensures.other_items in
    let below : most size c.append.new.other.items < t = omega (arith, small, c.loop-next.invariant, c.decreases) in
    (((below, tt), tt), search rules)

pub loop-next-smaller : goal.loop-next-smaller
loop-next-smaller g t c =
    opened_smaller c.loop-next.left.items c.pop.new.self.items c.into_parts.result.1.items c.append.new.self.items c.pop.result c.in-Some.next (g.L.LanguageChildren.form c.into_parts.result.0) (is_ok c.append.result) c.pop.ensures.items c.in-Some.is c.into_parts.ensures c.append.ensures.items

pub loop-next-preserved : goal.loop-next-preserved
loop-next-preserved g t c = omega (arith, loop-next-smaller g t c, c.loop-next.invariant)
