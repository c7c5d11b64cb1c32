-- A turn takes the top of the stack apart.
use Rattle.std.proofs.Common.{◌≡◌, ◌<◌, ◌++◌, ◌-◌, List, [], take, reverse, ap, sym, ◌∙◌, subst}
use Rattle.slotted_explain.specs.Chain.{Rewrite, rewrites_below}
use Rattle.slotted_explain.proofs.Rewriting.{IsUnderWay, chain_ends, chain_goes_on, left-falls, on_top, rewrites_left}
use Rattle.slotted_explain.proofs.steps.flat_steps.Goals as goal

pub loop-step-smaller : goal.loop-step-smaller
loop-step-smaller c =
    let list = c.args.proofs.now in
    let rest = c.pop.new.self.items in
    let r = c.in-Some.step in
    let before = subst (λ s. IsUnderWay list c.args.p s c.loop-step.steps.items) c.in-Some.ensures.items c.loop-step.invariant in
    subst (λ s. rewrites_left list s < rewrites_left list c.loop-step.stack.items) (sym c.in_ok-take_apart.ensures.below)
    (subst (λ s. rewrites_left list (rest ++ reverse (rewrites_below list r)) < rewrites_left list s) (sym c.in-Some.ensures.items)
    (left-falls list c.requires.earlier rest r (on_top list c.args.p rest c.loop-step.steps.items r before)))

pub loop-step-preserved : goal.loop-step-preserved
loop-step-preserved c =
    let list = c.args.proofs.now in
    let rest = c.pop.new.self.items in
    let r = c.in-Some.step in
    let before = subst (λ s. IsUnderWay list c.args.p s c.loop-step.steps.items) c.in-Some.ensures.items c.loop-step.invariant in
    subst (λ s. IsUnderWay list c.args.p s c.take_apart.new.steps.items) (sym c.in_ok-take_apart.ensures.below)
    (subst (IsUnderWay list c.args.p (rest ++ reverse (rewrites_below list r))) (sym c.in_ok-take_apart.ensures.own)
    (chain_goes_on list c.requires.earlier c.args.p rest c.loop-step.steps.items r before))

pub returns-clause-chain : goal.returns-clause-chain
returns-clause-chain c =
    let items = c.loop-step.stack.items in
    let none : items ≡ [] = c.in_default.ensures.items ∙ ap (λ (xs : List Rewrite). xs ++ []) (c.in_default.ensures.rest ∙ ap (λ n. take (n - 1) items) c.in_default.ensures.cases.0) in
    chain_ends c.args.proofs.now c.args.p c.loop-step.steps.items (subst (λ s. IsUnderWay c.args.proofs.now c.args.p s c.loop-step.steps.items) none c.loop-step.invariant)
