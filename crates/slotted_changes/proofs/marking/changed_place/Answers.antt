use Rattle.std.proofs.Common.{◌≡◌, ◌++◌, [], ◌∷◌, List, length, sym, subst, ap, ◌∙◌, arith, inl, inr, rules}
use Rattle.std.specs.Prelude.{◌⊎◌}
use Rattle.slotted_languages.specs.Filled.{term_of}
use Rattle.slotted_theory.specs.Term.{Term, term_size}
use Rattle.slotted_terms.specs.LargeNodes.{HasLargeNode, HaveLargeNode}
use Rattle.slotted_terms.proofs.LargeNodes.{large_below}
use Rattle.slotted_changes.specs.Changes.{DifferBelow, Level, nth}
use Rattle.slotted_changes.specs.Steps.{level, levels_of}
use Rattle.slotted_changes.proofs.Places.{Way, child-smaller, one_node-rows, step-down}
use Rattle.slotted_changes.proofs.marking.changed_place.Goals as goal

pub returns-in_err-k-clause-slots : goal.returns-in_err-k-clause-slots
returns-in_err-k-clause-slots g c e =
    let form = g.L.LanguageChildren.form in
    let large : HaveLargeNode c.deref.result.now ⊎ HaveLargeNode c.deref-in-loop-steps.result.now = c.in_err-k.ensures.slots (search rules) in
    elim large [
      | inl l ↦ inl (c.loop-steps.invariant.first_large (subst HasLargeNode (ap (term_of (form c.from.inside.node)) c.deref.ensures.value ∙ c.from.view_is) (large_below (form c.from.inside.node) c.deref.result.now l)))
      | inr r ↦ inr (c.loop-steps.invariant.second_large (subst HasLargeNode (ap (term_of (form c.to.inside.node)) c.deref-in-loop-steps.ensures.value ∙ c.to.view_is) (large_below (form c.to.inside.node) c.deref-in-loop-steps.result.now r)))
    ]

pub child_at-from-requires : goal.child_at-from-requires
child_at-from-requires g c =
    let form = g.L.LanguageChildren.form in
    let b : DifferBelow (form c.from.inside.node) (form c.to.inside.node) c.deref.result.now c.deref-in-loop-steps.result.now c.in-Some.k = rw c.in-Some.is at c.in_ok-k.ensures.some in
    omega (arith, b.differ.within, ap length (c.deref.ensures.value ∙ sym c.deref-in-Some-2.ensures.value))

pub child_at-to-requires : goal.child_at-to-requires
child_at-to-requires g c =
    let form = g.L.LanguageChildren.form in
    let f = form c.from.inside.node in
    let h = form c.to.inside.node in
    let b : DifferBelow f h c.deref.result.now c.deref-in-loop-steps.result.now c.in-Some.k = rw c.in-Some.is at c.in_ok-k.ensures.some in
    let rows = one_node-rows f h c.deref.result.now c.deref-in-loop-steps.result.now b.node in
    omega (arith, rows, b.differ.within, ap length (c.deref-in-loop-steps.ensures.value ∙ sym c.deref-in-Some-3.ensures.value))

pub loop-steps-smaller : goal.loop-steps-smaller
loop-steps-smaller g c =
    let form = g.L.LanguageChildren.form in
    let f = form c.from.inside.node in
    let k = c.in-Some.k in
    let b : DifferBelow f (form c.to.inside.node) c.deref.result.now c.deref-in-loop-steps.result.now k = rw c.in-Some.is at c.in_ok-k.ensures.some in
    let is : c.child_at-from.result.now ≡ nth c.deref.result.now k = c.child_at-from.ensures ∙ ap (λ (xs : List Term). nth xs k) (c.deref-in-Some-2.ensures.value ∙ sym c.deref.ensures.value) in
    let smaller = child-smaller f c.deref.result.now k c.loop-steps.from.now b.differ.within (ap (term_of f) c.deref.ensures.value ∙ c.from.view_is) in
    omega (arith, smaller, ap term_size is)

pub loop-steps-preserved : goal.loop-steps-preserved
loop-steps-preserved g c =
    let form = g.L.LanguageChildren.form in
    let f = form c.from.inside.node in
    let h = form c.to.inside.node in
    let k = c.in-Some.k in
    let one = c.args.one.now in
    let two = c.args.two.now in
    let ts : List Term = c.deref.result.now in
    let us : List Term = c.deref-in-loop-steps.result.now in
    let ls = levels_of form c.loop-steps.steps.items in
    let b : DifferBelow f h ts us k = rw c.in-Some.is at c.in_ok-k.ensures.some in
    let from : c.child_at-from.result.now ≡ nth ts k = c.child_at-from.ensures ∙ ap (λ (xs : List Term). nth xs k) (c.deref-in-Some-2.ensures.value ∙ sym c.deref.ensures.value) in
    let to : c.child_at-to.result.now ≡ nth us k = c.child_at-to.ensures ∙ ap (λ (xs : List Term). nth xs k) (c.deref-in-Some-3.ensures.value ∙ sym c.deref-in-loop-steps.ensures.value) in
    let more : levels_of form c.push_step.new.steps.items ≡ ls ++ level f ts k ∷ [] =
    c.in_ok-push_step.ensures.ok ∙ ap (λ (xs : List Term). ls ++ level f xs k ∷ []) (c.deref-in-Some.ensures.value ∙ sym c.deref.ensures.value) in
    let way = step-down one two c.loop-steps.from.now c.loop-steps.to.now ls c.loop-steps.invariant f h ts us k (ap (term_of f) c.deref.ensures.value ∙ c.from.view_is) (ap (term_of h) c.deref-in-loop-steps.ensures.value ∙ c.to.view_is) b in
    subst (λ (p : (Term × Term) × List Level). Way one two p.0.0 p.0.1 p.1) (λ i. ((sym from i, sym to i), sym more i)) way
