-- The pair at hand gives way to those of the terms under its nodes.
use Rattle.std.proofs.Common.{◌++◌, option_to_list, ap, ◌∙◌, rules}
use Rattle.std.proofs.lemmas.Bool.{false≢true}
use Rattle.slotted_theory.specs.Nameless.{Alpha}
use Rattle.slotted_terms.specs.LargeNodes.{HasLargeNode}
use Rattle.slotted_terms.proofs.PairLists.{last-differs, last-large, left-fewer, left-opened}
use Rattle.slotted_terms.proofs.expr.RecExpr.alpha_eq.Goals as goal

pub returns-in_err-compare-clause-slots : goal.returns-in_err-compare-clause-slots
returns-in_err-compare-clause-slots g c e =
    let last = c.pop.ensures.items ∙ ap (λ o. c.pop.new.self.items ++ option_to_list o) c.in-Some.is in
    last-large (Alpha c.args.self.now c.args.other.now) (HasLargeNode c.args.self.now) (HasLargeNode c.args.other.now) c.loop-pair.binders.items c.loop-pair.left.items c.pop.new.self.items c.in-Some.pair last c.loop-pair.invariant.left (c.in_err-compare.ensures.slots (search rules))

pub returns-then-not-branch-clause-same : goal.returns-then-not-branch-clause-same
returns-then-not-branch-clause-same g c =
    let last = c.pop.ensures.items ∙ ap (λ o. c.pop.new.self.items ++ option_to_list o) c.in-Some.is in
    (λ e. absurd (false≢true e), λ w. absurd (last-differs (Alpha c.args.self.now c.args.other.now) (HasLargeNode c.args.self.now) (HasLargeNode c.args.other.now) c.loop-pair.binders.items c.loop-pair.left.items c.pop.new.self.items c.in-Some.pair last c.loop-pair.invariant.left (c.in_ok-compare.ensures.same.no c.if-not-branch.true) w))

pub loop-pair-smaller : goal.loop-pair-smaller
loop-pair-smaller g c =
    let last = c.pop.ensures.items ∙ ap (λ o. c.pop.new.self.items ++ option_to_list o) c.in-Some.is in
    left-fewer (Alpha c.args.self.now c.args.other.now) (HasLargeNode c.args.self.now) (HasLargeNode c.args.other.now) c.loop-pair.binders.items c.loop-pair.left.items c.pop.new.self.items c.in-Some.pair last c.loop-pair.invariant.left c.compare.new.binders.items c.compare.new.left.items (c.in_ok-compare.ensures.same.yes c.if-not-branch.false)

pub loop-pair-preserved : goal.loop-pair-preserved
loop-pair-preserved g c =
    let last = c.pop.ensures.items ∙ ap (λ o. c.pop.new.self.items ++ option_to_list o) c.in-Some.is in
    record { left = left-opened (Alpha c.args.self.now c.args.other.now) (HasLargeNode c.args.self.now) (HasLargeNode c.args.other.now) c.loop-pair.binders.items c.loop-pair.left.items c.pop.new.self.items c.in-Some.pair last c.loop-pair.invariant.left c.compare.new.binders.items c.compare.new.left.items (c.in_ok-compare.ensures.same.yes c.if-not-branch.false) }
